-- The loads that a play notes are its accesses.
use Rattle.std.proofs.Common.{inl, inr, ◌≡◌, ◌⊎◌, ℕ, zero, suc, ◌+◌, ◌<◌, ◌≤◌, true, false, Bool, cond, List, [], ◌∷◌}
use Rattle.std.proofs.Common.{◌++◌, length, replicate, sym, refl, ap}
use Rattle.std.proofs.Common.{◌∙◌, subst, arith, get_or-set_same}
use Rattle.std.specs.Prelude.{slice_index_or, slice_set, Some, None}
use Rattle.std.specs.List.{Contains}
use Rattle.std.proofs.lemmas.List.{get_or_past}
use Rattle.std.proofs.lemmas.List.Elements.{Contains-append_cases}
use Rattle.std.proofs.lemmas.Bool.{cases_lt}
use native.Mathlib.Decide.{ℕ_discrete}
use Rattle.rtr_types.specs.Accesses.{is_read}
use Rattle.rtr_types.specs.declared.access.Access.{Access}
use Rattle.conflict_edge.specs.Conflicts.{StandsIn}
use Rattle.rv_core.specs.declared.outcome.LoadNote.{LoadNote}
use Rattle.rv_core.specs.declared.outcome.Outcome.{Outcome}
use Rattle.replay_core.specs.Plans.{Plan, plan_of}
use Rattle.replay_core.specs.Play.{Use, loads_after, accesses_by, core_at, loads_at, instr, old_at, new_at, place}
use Rattle.replay_core.specs.Play.{touched, start, play, accesses_from, played}
use Rattle.replay_core.specs.Play.{accesses_of}
use Rattle.replay_core.proofs.Places.{place_law}
use Rattle.replay_audit.specs.Laws.{OneLoadLaw}
use Rattle.replay_audit.proofs.Rise.{touched_is}
use Rattle.replay_audit.proofs.Swaps.{use_at, place_is}
use Rattle.replay_audit.proofs.OrdersAgree.{one_access_law}
use Rattle.conflict_edge.proofs.AccessPlaces.{stands_left, stands_right}

-- the note tells of an access of core i
pub record TellsOf (list : List Access) (i : ℕ) (note : LoadNote) : Type 0 where
  pub access : Access
  pub stands : StandsIn list access
  pub at : access.at ≡ instr i note.count
  pub word : access.word ≡ note.word
  pub value : access.before ≡ note.value

only : (m n : LoadNote) → Contains (m ∷ []) n → m ≡ n
only m n (zero, below, is) = is
only m n (suc k, below, is) = absurd (omega arith)

none-in : (n : LoadNote) → Contains [] n → ⊥
none-in n (k, below, is) = absurd (omega arith)

told_of : (used : Use) (i count value after : ℕ) (old : List LoadNote) (n : LoadNote) →
    Contains (loads_after used old count value) n → Contains old n
    ⊎ TellsOf (accesses_by used (instr i count) value after) i n
told_of None i count value after old n c = inl c
told_of (Some used) i count value after old n c = by (is_read used.0) c
  where
    note : LoadNote
    note = record { count = count; word = used.1; value = value }

    made : Access
    made = record { at = instr i count; word = used.1; kind = used.0; before = value; after = after }

    new : Contains old n ⊎ Contains (note ∷ []) n → Contains old n ⊎ TellsOf (made ∷ []) i n
    new (inl h) = inl h
    new (inr h) =
        let e = only note n h in
        inr (record {
          access = made;
          stands = inl refl;
          at = ap (λ (x : LoadNote). instr i x.count) e;
          word = ap (λ (x : LoadNote). x.word) e;
          value = ap (λ (x : LoadNote). x.value) e;
        })

    by : (b : Bool) → Contains (cond b (old ++ note ∷ []) old) n → Contains old n ⊎ TellsOf (made ∷ []) i n
    by true h = new (Contains-append_cases old (note ∷ []) n h)
    by false h = inl h

one_place : (p : Plan) (s : Outcome) (c i : ℕ) (n : LoadNote) → Contains (loads_at (place p s c) i) n →
    Contains (loads_at s i) n ⊎ TellsOf (touched p s c) i n
one_place p s c i n h = elim (ℕ_discrete i c) [
  | yes e ↦
      let g = here (subst (λ (x : ℕ). Contains (loads_at (place p s c) x) n) e h) (cases_lt c (length s.loads)) in
      subst (λ (x : ℕ). Contains (loads_at s x) n ⊎ TellsOf (touched p s c) x n) (sym e) g
  | no ne ↦ inl (subst (λ (l : List LoadNote). Contains l n) ((place_law p s c).other_loads i ne) h)
]
  where
    new : List LoadNote
    new = loads_after (use_at p s c) (loads_at s c) ((core_at s c).count + 1) (old_at p s c)

    is : loads_at (place p s c) c ≡ slice_index_or (slice_set s.loads c new) c []
    is = ap (λ (x : Outcome). loads_at x c) (place_is p s c)

    there : Contains new n → Contains (loads_at s c) n ⊎ TellsOf (touched p s c) c n
    there h = subst (λ (l : List Access). Contains (loads_at s c) n ⊎ TellsOf l c n) (sym (touched_is p s c))
        (told_of (use_at p s c) c ((core_at s c).count + 1) (old_at p s c) (new_at p s c) (loads_at s c) n h)

    here : Contains (loads_at (place p s c) c) n → (c < length s.loads) ⊎ (length s.loads ≤ c) →
        Contains (loads_at s c) n ⊎ TellsOf (touched p s c) c n
    here h (inl lt) = there (subst (λ (l : List LoadNote). Contains l n) (is ∙ get_or-set_same s.loads c new [] lt) h)
    here h (inr le) =
        let all = (place_law p s c).all_loads in
        absurd (none-in n (subst (λ (l : List LoadNote). Contains l n)
        (get_or_past (place p s c).loads c [] (omega arith)) h))

told_in : {l m : List Access} {i : ℕ} {n : LoadNote} → ((a : Access) → StandsIn l a → StandsIn m a) →
    TellsOf l i n → TellsOf m i n
told_in wider t = record {
  access = t.access;
  stands = wider t.access t.stands;
  at = t.at;
  word = t.word;
  value = t.value;
}

pub notes_tell : (p : Plan) (s : Outcome) (order : List ℕ) (i : ℕ) (n : LoadNote) →
    Contains (loads_at (play p s order) i) n → Contains (loads_at s i) n
    ⊎ TellsOf (accesses_from p s order) i n
notes_tell p s [] i n h = inl h
notes_tell p s (c ∷ cs) i n h = by (notes_tell p (place p s c) cs i n h)
  where
    first : Contains (loads_at s i) n ⊎ TellsOf (touched p s c) i n → Contains (loads_at s i) n
        ⊎ TellsOf (touched p s c ++ accesses_from p (place p s c) cs) i n
    first (inl q) = inl q
    first (inr t) = inr (told_in (stands_left (touched p s c) (accesses_from p (place p s c) cs)) t)

    by : Contains (loads_at (place p s c) i) n ⊎ TellsOf (accesses_from p (place p s c) cs) i n →
        Contains (loads_at s i) n
        ⊎ TellsOf (touched p s c ++ accesses_from p (place p s c) cs) i n
    by (inl q) = first (one_place p s c i n q)
    by (inr t) = inr (told_in (stands_right (touched p s c) (accesses_from p (place p s c) cs)) t)

abbrev no_notes : List LoadNote
no_notes = []

empties : (n i : ℕ) → slice_index_or (replicate n no_notes) i no_notes ≡ no_notes
empties zero i = refl
empties (suc n) zero = refl
empties (suc n) (suc i) = empties n i

-- from the start each note tells of an access
pub note_tells : (p : Plan) (order : List ℕ) (i : ℕ) (n : LoadNote) → Contains (loads_at (played p order) i) n →
    TellsOf (accesses_of p order) i n
note_tells p order i n h = by (notes_tell p (start p) order i n h)
  where
    by : Contains (loads_at (start p) i) n ⊎ TellsOf (accesses_of p order) i n → TellsOf (accesses_of p order) i n
    by (inl q) = absurd (none-in n (subst (λ (l : List LoadNote). Contains l n) (empties (length p.totals) i) q))
    by (inr t) = t

abbrev note_of : (count word value : ℕ) → LoadNote
note_of count word value = record { count = count; word = word; value = value }

pub one_load_law : OneLoadLaw
one_load_law which r whole order other c m n h hm hn e =
    let a = note_tells (plan_of which r) order c m hm in
    let b = note_tells (plan_of which r) other c n hn in
    let same : a.access ≡ b.access = one_access_law which r whole order other a.access b.access h a.stands b.stands
    (a.at ∙ ap (λ (k : ℕ). instr c k) e ∙ sym b.at) in
    let word : m.word ≡ n.word = sym a.word ∙ ap (λ (x : Access). x.word) same ∙ b.word in
    let value : m.value ≡ n.value = sym a.value ∙ ap (λ (x : Access). x.before) same ∙ b.value in
    ap (λ (k : ℕ). note_of k m.word m.value) e ∙ ap (λ (k : ℕ). note_of n.count k m.value) word
    ∙ ap (λ (k : ℕ). note_of n.count n.word k) value
