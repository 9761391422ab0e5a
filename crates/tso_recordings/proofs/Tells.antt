-- What is told one after the other is a play.
use Rattle.std.proofs.Common.{◌≡◌, ◌∙◌, ℕ, ◌+◌, false, List, [], ◌∷◌, ◌++◌, refl, sym, ap}
use Rattle.std.specs.Prelude.{Option, Some, None}
use Rattle.rtr_types.specs.declared.instr.Instr.{Instr}
use Rattle.rtr_types.specs.declared.access.Access.{Access}
use Rattle.rtr_types.specs.declared.access.Kind.TheVariants.{Load}
use Rattle.rv_core.specs.declared.outcome.Outcome.{Outcome}
use Rattle.rv_core.specs.Steps.{is_done, wrote}
use Rattle.replay_core.specs.Plans.{Plan}
use Rattle.replay_core.specs.Play.{Given, Use, use_of, old_for, heeded, shared, found_for, uses, old_given, new_given}
use Rattle.replay_core.specs.Play.{given_next, instr, core_at, need_at}
use Rattle.replay_core.specs.Play.{accesses_by, valued_place, valued_touch, valued_accesses_from}
use Rattle.replay_audit.proofs.Rise.{given_touch_is}
use Rattle.tso_state.specs.Events.{Told, Alone, Ordered, Logged, instr_told}
use Rattle.tso_told.specs.Played.{ordered_told}
use Rattle.tso_recordings.specs.Tells.{IsLocal, IsOrdered, IsLogged, TellsAt, ToldPlaysLaw, cores_told}
use Rattle.tso_recordings.proofs.Firsts.{ordered_first}

pub shared-none : (g : Option ℕ) → shared (heeded g None) None ≡ None
shared-none None = refl
shared-none (Some value) = refl

-- a place that uses no word of the memory is told no access
quiet : (given : Given) (p : Plan) (s : Outcome) (c : ℕ) → uses p s c (given_next given s c) ≡ None →
    valued_touch given p s c ≡ []
quiet given p s c none =
    let g = given_next given s c in
    given_touch_is g p s c ∙ ap
    (λ (u : Use). accesses_by u (instr c ((core_at s c).count + 1)) (old_given p s c g) (new_given p s c g)) none

told-local : (given : Given) (p : Plan) (s : Outcome) (at : Instr) → IsLocal p s at →
    valued_touch given p s at.core ≡ []
told-local given p s at h =
    let g = given_next given s at.core in
    quiet given p s at.core (ap (λ (u : Use). shared (heeded g u) u) h.uses ∙ shared-none g)

told-logged : (given : Given) (p : Plan) (s : Outcome) (at : Instr) (word value : ℕ) →
    IsLogged given p s at word value → valued_touch given p s at.core ≡ []
told-logged given p s at word value h =
    let g = given_next given s at.core in
    let next : (core_at s at.core).count + 1 ≡ at.count = sym (ap (λ (x : Instr). x.count) h.next.is) in
    let is : g ≡ Some value = ap (λ (n : ℕ). given at.core n) next ∙ h.given_is in
    quiet given p s at.core
    (ap (λ (u : Use). shared (heeded g u) u) h.uses
    ∙ ap (λ (x : Option ℕ). shared (heeded x (Some (Load, word))) (Some (Load, word))) is)

told-ordered : (given : Given) (p : Plan) (s : Outcome) (a : Access) → IsOrdered given p s a →
    valued_touch given p s a.at.core ≡ a ∷ []
told-ordered given p s a h =
    let c = a.at.core in
    let g = given_next given s c in
    let u = use_of (need_at p s c) in
    let made : Instr → ℕ → ℕ → List Access = λ x old new. accesses_by (Some (a.kind, a.word)) x old new in
    let next : (core_at s c).count + 1 ≡ a.at.count = sym (ap (λ (x : Instr). x.count) h.next.is) in
    let heeds_is : heeded g u ≡ None =
    ap (λ (v : Use). heeded g v) h.uses ∙ ap (λ (n : ℕ). heeded (given c n) (Some (a.kind, a.word))) next ∙ h.own in
    let uses_is : uses p s c g ≡ Some (a.kind, a.word) = ap (λ (x : Option ℕ). shared x u) heeds_is ∙ h.uses in
    let old_is : old_given p s c g ≡ a.before =
    ap (λ (x : Option ℕ). found_for x u s.words) heeds_is ∙ ap (λ (v : Use). old_for v s.words) h.uses ∙ sym h.before in
    let new_is : new_given p s c g ≡ a.after = ap (λ (n : ℕ). wrote p.image (core_at s c) n) old_is ∙ sym h.after in
    given_touch_is g p s c
    ∙ ap (λ (v : Use). accesses_by v (instr c ((core_at s c).count + 1)) (old_given p s c g) (new_given p s c g))
    uses_is
    ∙ ap (λ (x : Instr). made x (old_given p s c g) (new_given p s c g)) (sym h.next.is)
    ∙ ap (λ (n : ℕ). made a.at n (new_given p s c g)) old_is
    ∙ ap (λ (n : ℕ). made a.at a.before n) new_is

told : (given : Given) (p : Plan) (s : Outcome) (e : Told) → TellsAt given p s e →
    (is_done (need_at p s (instr_told e).core) ≡ false)
    × (valued_touch given p s (instr_told e).core ≡ ordered_told (e ∷ []))
told given p s (Alone at) h = (h.next.going, told-local given p s at h)
told given p s (Ordered a) h = (h.next.going, told-ordered given p s a h)
told given p s (Logged at word value) h = (h.next.going, told-logged given p s at word value h)

pub told_plays : ToldPlaysLaw
told_plays given p s [] h = (tt, refl)
told_plays given p s (e ∷ list) h =
    let c = (instr_told e).core in
    let one = told given p s e h.0 in
    let rest = told_plays given p (valued_place given p s c) list h.1 in (
      (one.0, rest.0),
      ap (λ (l : List Access). l ++ valued_accesses_from given p (valued_place given p s c) (cores_told list)) one.1
          ∙ ap (λ (l : List Access). ordered_told (e ∷ []) ++ l) rest.1
          ∙ sym (ordered_first [] e list),
    )
