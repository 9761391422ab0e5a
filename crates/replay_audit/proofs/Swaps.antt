-- Two neighbours of an order that don't conflict change places.
use Rattle.std.proofs.Common.{inl, inr, ◌≡◌, ◌≢◌, ◌⊎◌, ℕ, ◌+◌, Bool, true, false, cond, List, sym, refl, ap, ◌∙◌, subst}
use Rattle.std.proofs.Common.{get_or-set_other}
use Rattle.std.specs.Prelude.{slice_index, slice_set, Option, Some, None, IsTrue}
use Rattle.std.proofs.lemmas.List.{set_comm}
use Rattle.rtr_types.specs.Accesses.{is_write}
use Rattle.rtr_types.specs.declared.instr.Instr.{Instr}
use Rattle.rtr_types.specs.declared.access.Access.{Access}
use Rattle.rtr_types.specs.declared.access.Kind.{Kind}
use Rattle.conflict_edge.specs.Conflicts.{Conflicts, StandsIn}
pub use Rattle.conflict_edge.proofs.History.{Meets}
use Rattle.rv_core.specs.declared.core_state.Core.{Core}
use Rattle.rv_core.specs.declared.outcome.LoadNote.{LoadNote}
use Rattle.rv_core.specs.declared.outcome.Outcome.{Outcome}
use Rattle.rv_core.specs.Steps.{need, after, wrote}
use Rattle.replay_core.specs.Plans.{Plan}
use Rattle.replay_core.specs.Play.{Given, no_values, Use, use_of, old_for, words_after, loads_after, accesses_by}
use Rattle.replay_core.specs.Play.{core_at, loads_at, instr, need_at, old_at}
use Rattle.replay_core.specs.Play.{place, heeded, heeds, shared, found_for, uses, old_given, new_given, place_given}
use Rattle.replay_core.specs.Play.{given_next, valued_place, valued_touch}
use Rattle.replay_core.proofs.Places.{place_given_law}
use Rattle.replay_audit.specs.Laws.{Clash}
use Rattle.replay_audit.proofs.Rise.{given_touch_is}

-- ---- what two instructions use

pub clash_back : (u v : Use) → Clash u v → Clash v u
clash_back None v k = absurd k
clash_back (Some u) None k = absurd k
clash_back (Some u) (Some v) k = (sym k.0, kinds k.1)
  where
    kinds : {P Q : Type 0} → P ⊎ Q → Q ⊎ P
    kinds (inl p) = inr p
    kinds (inr p) = inl p

abbrev pub made : (x : Instr) (word : ℕ) (kind : Kind) (before after : ℕ) → Access
made x word kind before after = record { at = x; word = word; kind = kind; before = before; after = after }

-- a clash is a conflict of the two accesses
pub clash_meets : (u v : Use) (x y : Instr) (o n p m : ℕ) → x.core ≢ y.core → Clash u v →
    Meets (accesses_by u x o n) (accesses_by v y p m) x y
clash_meets None v x y o n p m ne k = absurd k
clash_meets (Some u) None x y o n p m ne k = absurd k
clash_meets (Some u) (Some v) x y o n p m ne k = record {
  first = made x u.1 u.0 o n;
  second = made y v.1 v.0 p m;
  first_stands = inl refl;
  second_stands = inl refl;
  first_at = refl;
  second_at = refl;
  conflict = (ne, k.0, k.1);
}

pub one_at : (u : Use) (x : Instr) (o n : ℕ) (a : Access) → StandsIn (accesses_by u x o n) a → a.at ≡ x
one_at None x o n a s = absurd s
one_at (Some u) x o n a (inl e) = ap (λ (z : Access). z.at) (sym e)
one_at (Some u) x o n a (inr s) = absurd s

conflict-clash : (u v : Kind × ℕ) (x y : Instr) (o n p m : ℕ) (a b : Access) → made x u.1 u.0 o n ≡ a →
    made y v.1 v.0 p m ≡ b → Conflicts a b →
    Clash (Some u) (Some v)
conflict-clash u v x y o n p m a b e f k =
    (ap (λ (z : Access). z.word) e ∙ k.1 ∙ ap (λ (z : Access). z.word) (sym f), by k.2)
  where
    by : IsTrue (is_write a.kind) ⊎ IsTrue (is_write b.kind) → IsTrue (is_write u.0) ⊎ IsTrue (is_write v.0)
    by (inl t) = inl (subst (λ (z : Kind). IsTrue (is_write z)) (ap (λ (z : Access). z.kind) (sym e)) t)
    by (inr t) = inr (subst (λ (z : Kind). IsTrue (is_write z)) (ap (λ (z : Access). z.kind) (sym f)) t)

pub conflict_clash : (u v : Use) (x y : Instr) (o n p m : ℕ) (a b : Access) → StandsIn (accesses_by u x o n) a →
    StandsIn (accesses_by v y p m) b →
    Conflicts a b → Clash u v
conflict_clash None v x y o n p m a b s t k = absurd s
conflict_clash (Some u) None x y o n p m a b s t k = absurd t
conflict_clash (Some u) (Some v) x y o n p m a b (inl e) (inl f) k = conflict-clash u v x y o n p m a b e f k
conflict_clash (Some u) (Some v) x y o n p m a b (inr s) t k = absurd s
conflict_clash (Some u) (Some v) x y o n p m a b (inl e) (inr t) k = absurd t

-- what the one leaves is what the other finds
pub old_else : (u v : Use) (ws : List ℕ) (value : ℕ) → (Clash u v → ⊥) →
    old_for v (words_after u ws value) ≡ old_for v ws
old_else None v ws value free = refl
old_else (Some u) None ws value free = refl
old_else (Some u) (Some v) ws value free = by (is_write u.0) (λ e t. free (e, inl t))
  where
    by : (b : Bool) → (u.1 ≡ v.1 → IsTrue b → ⊥) →
        slice_index (cond b (slice_set ws u.1 value) ws) v.1 ≡ slice_index ws v.1
    by true no_clash = get_or-set_other ws u.1 v.1 value 0 (λ e. no_clash (sym e) refl)
    by false no_clash = refl

pub words_swap : (u v : Use) (ws : List ℕ) (value other : ℕ) → (Clash u v → ⊥) →
    words_after v (words_after u ws value) other ≡ words_after u (words_after v ws other) value
words_swap None v ws value other free = refl
words_swap (Some u) None ws value other free = refl
words_swap (Some u) (Some v) ws value other free = by (is_write u.0) (is_write v.0) (λ e t. free (e, inl t))
  where
    by : (b d : Bool) → (u.1 ≡ v.1 → IsTrue b → ⊥) →
        cond d (slice_set (cond b (slice_set ws u.1 value) ws) v.1 other) (cond b (slice_set ws u.1 value) ws) ≡ cond b
        (slice_set (cond d (slice_set ws v.1 other) ws) u.1 value) (cond d (slice_set ws v.1 other) ws)
    by true true no_clash = set_comm ws u.1 v.1 value other (λ e. no_clash e refl)
    by true false no_clash = refl
    by false d no_clash = refl

-- what is found where a value may be given
found_else : (g : Option ℕ) (u v : Use) (ws : List ℕ) (value : ℕ) → (Clash u (shared g v) → ⊥) →
    found_for g v (words_after u ws value) ≡ found_for g v ws
found_else None u v ws value free = old_else u v ws value free
found_else (Some x) u v ws value free = refl

-- ---- places

-- what core c uses of the memory in the state k
abbrev pub use_in : Given → Plan → ℕ → Core → Use
use_in given p c k = shared (heeded (given c (k.count + 1)) (use_of (need p.image k))) (use_of (need p.image k))

-- and what it finds
abbrev found_in : Given → Plan → ℕ → Core → List ℕ → ℕ
found_in given p c k words =
    found_for (heeded (given c (k.count + 1)) (use_of (need p.image k))) (use_of (need p.image k)) words

abbrev pub valued_placed : Given → Plan → Outcome → ℕ → Core → ℕ → List LoadNote → Outcome
valued_placed given p s c k old notes = record {
  cores = slice_set s.cores c (after p.image k old);
  words = words_after (use_in given p c k) s.words (wrote p.image k old);
  loads = slice_set s.loads c (loads_after (use_of (need p.image k)) notes (k.count + 1) old);
}

abbrev touching : Given → Plan → ℕ → Core → ℕ → List Access
touching given p c k old = accesses_by (use_in given p c k) (instr c (k.count + 1)) old (wrote p.image k old)

-- what core c's next instruction uses, finds and leaves
abbrev pub valued_use : Given → Plan → Outcome → ℕ → Use
valued_use given p s c = uses p s c (given_next given s c)

abbrev pub valued_old : Given → Plan → Outcome → ℕ → ℕ
valued_old given p s c = old_given p s c (given_next given s c)

abbrev pub valued_new : Given → Plan → Outcome → ℕ → ℕ
valued_new given p s c = new_given p s c (given_next given s c)

pub valued_place_is : (given : Given) (p : Plan) (s : Outcome) (c : ℕ) →
    valued_place given p s c ≡ valued_placed given p s c (core_at s c) (valued_old given p s c) (loads_at s c)
unfolding place_given
valued_place_is given p s c = refl

abbrev pub placed : Plan → Outcome → ℕ → Core → ℕ → List LoadNote → Outcome
placed p s c k old notes = valued_placed no_values p s c k old notes

pub place_is : (p : Plan) (s : Outcome) (c : ℕ) → place p s c ≡ placed p s c (core_at s c) (old_at p s c) (loads_at s c)
place_is p s c = valued_place_is no_values p s c

pub valued_touch_is : (given : Given) (p : Plan) (s : Outcome) (c : ℕ) →
    valued_touch given p s c ≡ accesses_by (valued_use given p s c) (instr c ((core_at s c).count + 1))
    (valued_old given p s c) (valued_new given p s c)
valued_touch_is given p s c = given_touch_is (given_next given s c) p s c

touching_is : (given : Given) (p : Plan) (s : Outcome) (c : ℕ) →
    valued_touch given p s c ≡ touching given p c (core_at s c) (valued_old given p s c)
touching_is given p s c = valued_touch_is given p s c

abbrev outcome_of : List Core → List ℕ → List (List LoadNote) → Outcome
outcome_of cores words loads = record { cores = cores; words = words; loads = loads }

outcome_eq : (a b : List Core) (v w : List ℕ) (x y : List (List LoadNote)) → a ≡ b → v ≡ w → x ≡ y →
    outcome_of a v x ≡ outcome_of b w y
outcome_eq a b v w x y e f g = ap (λ (t : List Core). outcome_of t v x) e ∙ ap (λ (t : List ℕ). outcome_of b t x) f
    ∙ ap (λ (t : List (List LoadNote)). outcome_of b w t) g

-- what core c's next instruction uses, where no value is given
abbrev pub use_at : Plan → Outcome → ℕ → Use
use_at p s c = use_of (need_at p s c)

module _ (given : Given) where
  others-core : (p : Plan) (s : Outcome) (c d : ℕ) → c ≢ d → core_at (valued_place given p s d) c ≡ core_at s c
  others-core p s c d ne = (place_given_law p s d (given_next given s d)).other_cores c ne

  pub old_place : (p : Plan) (s : Outcome) (c d : ℕ) → c ≢ d →
      (Clash (valued_use given p s d) (valued_use given p s c) → ⊥) →
      valued_old given p (valued_place given p s d) c ≡ valued_old given p s c
  old_place p s c d ne free =
      let e : core_at (valued_place given p s d) c ≡ core_at s c = others-core p s c d ne in
      let w : (valued_place given p s d).words ≡ words_after (valued_use given p s d) s.words (valued_new given p s d) =
      ap (λ (x : Outcome). x.words) (valued_place_is given p s d) in
      ap (λ (k : Core). found_in given p c k (valued_place given p s d).words) e
      ∙ ap (λ (l : List ℕ). found_in given p c (core_at s c) l) w
      ∙ found_else (heeds p s c (given_next given s c)) (valued_use given p s d) (use_of (need_at p s c)) s.words
      (valued_new given p s d) free

  pub touched_place : (p : Plan) (s : Outcome) (c d : ℕ) → c ≢ d →
      (Clash (valued_use given p s d) (valued_use given p s c) → ⊥) →
      valued_touch given p (valued_place given p s d) c ≡ valued_touch given p s c
  touched_place p s c d ne free =
      let e : core_at (valued_place given p s d) c ≡ core_at s c = others-core p s c d ne in
      let o : valued_old given p (valued_place given p s d) c ≡ valued_old given p s c = old_place p s c d ne free in
      touching_is given p (valued_place given p s d) c
      ∙ ap (λ (k : Core). touching given p c k (valued_old given p (valued_place given p s d) c)) e
      ∙ ap (λ (n : ℕ). touching given p c (core_at s c) n) o
      ∙ sym (touching_is given p s c)

  place_place : (p : Plan) (s : Outcome) (c d : ℕ) → c ≢ d →
      (Clash (valued_use given p s d) (valued_use given p s c) → ⊥) →
      valued_place given p (valued_place given p s d) c
      ≡ valued_placed given p (valued_placed given p s d (core_at s d) (valued_old given p s d) (loads_at s d)) c
      (core_at s c) (valued_old given p s c)
      (loads_at s c)
  place_place p s c d ne free =
      let t : Outcome = valued_place given p s d in
      let e : core_at t c ≡ core_at s c = others-core p s c d ne in
      let o : valued_old given p t c ≡ valued_old given p s c = old_place p s c d ne free in
      let l : loads_at t c ≡ loads_at s c = (place_given_law p s d (given_next given s d)).other_loads c ne in
      valued_place_is given p t c
      ∙ ap (λ (k : Core). valued_placed given p t c k (valued_old given p t c) (loads_at t c)) e
      ∙ ap (λ (n : ℕ). valued_placed given p t c (core_at s c) n (loads_at t c)) o
      ∙ ap (λ (x : List LoadNote). valued_placed given p t c (core_at s c) (valued_old given p s c) x) l
      ∙ ap (λ (x : Outcome). valued_placed given p x c (core_at s c) (valued_old given p s c) (loads_at s c))
      (valued_place_is given p s d)

  pub place_swap : (p : Plan) (s : Outcome) (c d : ℕ) → c ≢ d →
      (Clash (valued_use given p s d) (valued_use given p s c) → ⊥) →
      valued_place given p (valued_place given p s d) c ≡ valued_place given p (valued_place given p s c) d
  place_swap p s c d ne free =
      let back : Clash (valued_use given p s c) (valued_use given p s d) → ⊥ =
      λ k. free (clash_back (valued_use given p s c) (valued_use given p s d) k) in
      let other : d ≢ c = λ e. ne (sym e) in
      place_place p s c d ne free
      ∙ outcome_eq _ _ _ _ _ _
      (set_comm s.cores d c _ _ other)
      (words_swap (valued_use given p s d) (valued_use given p s c) s.words (valued_new given p s d)
      (valued_new given p s c) free)
      (set_comm s.loads d c _ _ other)
      ∙ sym (place_place p s d c other back)
