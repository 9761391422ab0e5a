-- The loads of a play are those that are told.
use Rattle.std.proofs.Common.{◌≡◌, ◌∙◌, ℕ, ◌+◌, ◌<◌, Bool, true, false, cond, List, [], ◌∷◌, ◌++◌, length, refl}
use Rattle.std.proofs.Common.{sym, ap, subst}
use Rattle.std.proofs.Common.{append-nil, append_assoc, arith}
use Rattle.std.specs.Prelude.{Option, Some, None}
use native.Mathlib.Decide.{ℕ_discrete}
use Rattle.rtr_types.specs.Accesses.{is_read}
use Rattle.rtr_types.specs.declared.instr.Instr.{Instr}
use Rattle.rtr_types.specs.declared.access.Access.{Access}
use Rattle.rtr_types.specs.declared.access.Kind.TheVariants.{Load}
use Rattle.rv_core.specs.declared.outcome.LoadNote.{LoadNote}
use Rattle.rv_core.specs.declared.outcome.Outcome.{Outcome}
use Rattle.replay_core.specs.Plans.{Plan}
use Rattle.replay_core.specs.Play.{Given, Use, use_of, old_for, heeded, found_for, old_given, given_next, loads_after}
use Rattle.replay_core.specs.Play.{core_at, loads_at, need_at, valued_place}
use Rattle.replay_core.specs.Play.{valued_play}
use Rattle.replay_core.proofs.Places.{place_given_law}
use Rattle.tso_recordings.specs.Tells.{IsLogged, IsOrdered, Tells, TellsAt, cores_told}
use Rattle.tso_state.specs.Events.{Told, Alone, Ordered, Logged, instr_told}
use Rattle.tso_told.specs.Played.{read_told, reads_told, told_of}
use Rattle.tso_told.proofs.InOrder.{first_own, first_else}

pub loads_length : (given : Given) (p : Plan) (s : Outcome) (order : List ℕ) →
    length (valued_play given p s order).loads ≡ length s.loads
loads_length given p s [] = refl
loads_length given p s (c ∷ cs) =
    loads_length given p (valued_place given p s c) cs ∙ (place_given_law p s c (given_next given s c)).all_loads

-- ---- what each finds

found-ordered : (given : Given) (p : Plan) (s : Outcome) (a : Access) → IsOrdered given p s a →
    old_given p s a.at.core (given_next given s a.at.core) ≡ a.before
found-ordered given p s a h =
    let c = a.at.core in
    let g = given_next given s c in
    let u = use_of (need_at p s c) in
    let next : (core_at s c).count + 1 ≡ a.at.count = sym (ap (λ (x : Instr). x.count) h.next.is) in
    let heeds_is : heeded g u ≡ None =
    ap (λ (v : Use). heeded g v) h.uses ∙ ap (λ (n : ℕ). heeded (given c n) (Some (a.kind, a.word))) next ∙ h.own in
    ap (λ (x : Option ℕ). found_for x u s.words) heeds_is ∙ ap (λ (v : Use). old_for v s.words) h.uses ∙ sym h.before

found-logged : (given : Given) (p : Plan) (s : Outcome) (at : Instr) (word value : ℕ) →
    IsLogged given p s at word value →
    old_given p s at.core (given_next given s at.core) ≡ value
found-logged given p s at word value h =
    let g = given_next given s at.core in
    let next : (core_at s at.core).count + 1 ≡ at.count = sym (ap (λ (x : Instr). x.count) h.next.is) in
    let is : g ≡ Some value = ap (λ (n : ℕ). given at.core n) next ∙ h.given_is in
    ap (λ (u : Use). found_for (heeded g u) u s.words) h.uses
    ∙ ap (λ (x : Option ℕ). found_for (heeded x (Some (Load, word))) (Some (Load, word)) s.words) is

-- ---- what is noted at the core itself

abbrev note : (count word value : ℕ) → LoadNote
note count word value = record { count = count; word = word; value = value }

noted-local : (given : Given) (p : Plan) (s : Outcome) (c : ℕ) → c < length s.loads → use_of (need_at p s c) ≡ None →
    loads_at (valued_place given p s c) c ≡ loads_at s c
noted-local given p s c lt none =
    let g = given_next given s c in
    (place_given_law p s c g).loads lt
    ∙ ap (λ (u : Use). loads_after u (loads_at s c) ((core_at s c).count + 1) (old_given p s c g)) none

noted-reading : (b : Bool) (l : List LoadNote) (n : LoadNote) → cond b (l ++ n ∷ []) l ≡ l ++ cond b (n ∷ []) []
noted-reading true l n = refl
noted-reading false l n = sym (append-nil l)

noted-ordered : (given : Given) (p : Plan) (s : Outcome) (a : Access) → a.at.core < length s.loads →
    IsOrdered given p s a →
    loads_at (valued_place given p s a.at.core) a.at.core ≡ loads_at s a.at.core ++ read_told (Ordered a)
noted-ordered given p s a lt h =
    let c = a.at.core in
    let g = given_next given s c in
    let l = loads_at s c in
    let next : (core_at s c).count + 1 ≡ a.at.count = sym (ap (λ (x : Instr). x.count) h.next.is) in
    (place_given_law p s c g).loads lt
    ∙ ap (λ (u : Use). loads_after u l ((core_at s c).count + 1) (old_given p s c g)) h.uses
    ∙ ap (λ (n : ℕ). loads_after (Some (a.kind, a.word)) l n (old_given p s c g)) next
    ∙ ap (λ (v : ℕ). loads_after (Some (a.kind, a.word)) l a.at.count v) (found-ordered given p s a h)
    ∙ noted-reading (is_read a.kind) l (note a.at.count a.word a.before)

noted-logged : (given : Given) (p : Plan) (s : Outcome) (at : Instr) (word value : ℕ) → at.core < length s.loads →
    IsLogged given p s at word value →
    loads_at (valued_place given p s at.core) at.core
    ≡ loads_at s at.core ++ record { count = at.count; word = word; value = value } ∷ []
noted-logged given p s at word value lt h =
    let c = at.core in
    let g = given_next given s c in
    let l = loads_at s c in
    let next : (core_at s c).count + 1 ≡ at.count = sym (ap (λ (x : Instr). x.count) h.next.is) in
    (place_given_law p s c g).loads lt
    ∙ ap (λ (u : Use). loads_after u l ((core_at s c).count + 1) (old_given p s c g)) h.uses
    ∙ ap (λ (n : ℕ). loads_after (Some (Load, word)) l n (old_given p s c g)) next
    ∙ ap (λ (v : ℕ). loads_after (Some (Load, word)) l at.count v) (found-logged given p s at word value h)

-- ---- at any core

own-note : (given : Given) (p : Plan) (s : Outcome) (e : Told) → (instr_told e).core < length s.loads →
    TellsAt given p s e →
    loads_at (valued_place given p s (instr_told e).core) (instr_told e).core
    ≡ loads_at s (instr_told e).core ++ read_told e
own-note given p s (Alone at) lt h = noted-local given p s at.core lt h.uses ∙ sym (append-nil (loads_at s at.core))
own-note given p s (Ordered a) lt h = noted-ordered given p s a lt h
own-note given p s (Logged at word value) lt h = noted-logged given p s at word value lt h

-- the loads of a play are those that are told
pub loads_told : (given : Given) (p : Plan) (s : Outcome) (list : List Told) (core : ℕ) → core < length s.loads →
    Tells given p s list →
    loads_at (valued_play given p s (cores_told list)) core ≡ loads_at s core ++ reads_told (told_of core list)
loads_told given p s [] c lt h = sym (append-nil (loads_at s c))
loads_told given p s (e ∷ list) c lt h =
    let d = (instr_told e).core in
    let law = place_given_law p s d (given_next given s d) in
    let all = law.all_loads in
    let inside : c < length (valued_place given p s d).loads = omega arith in
    loads_told given p (valued_place given p s d) list c inside h.1
    ∙ elim (ℕ_discrete c d) [
      | yes same ↦
          let own : loads_at (valued_place given p s d) d ++ reads_told (told_of d list)
          ≡ loads_at s d ++ reads_told (told_of d (e ∷ list)) =
          ap (λ (l : List LoadNote). l ++ reads_told (told_of d list))
          (own-note given p s e (subst (λ (x : ℕ). x < length s.loads) same lt) h.0)
          ∙ append_assoc (loads_at s d) (read_told e) (reads_told (told_of d list))
          ∙ ap (λ (l : List Told). loads_at s d ++ reads_told l) (sym (first_own e list)) in
          subst (λ (x : ℕ). loads_at (valued_place given p s d) x ++ reads_told (told_of x list)
          ≡ loads_at s x ++ reads_told (told_of x (e ∷ list))) (sym same) own
      | no ne ↦
          ap (λ (l : List LoadNote). l ++ reads_told (told_of c list)) (law.other_loads c ne)
          ∙ ap (λ (l : List Told). loads_at s c ++ reads_told l) (sym (first_else c e list (λ is. ne (sym is))))
    ]
