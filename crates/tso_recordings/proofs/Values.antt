-- The recorded words are given to their loads.
use Rattle.std.proofs.Common.{inl, inr, ◌≡◌, ◌≢◌, ◌∙◌, ◌⊎◌, ℕ, ◌+◌, ◌<◌, ◌≤◌, Bool, true, false, cond, eqb, List, []}
use Rattle.std.proofs.Common.{◌∷◌, refl, sym, ap, subst, eq-eqb, ne_eqb, arith}
use Rattle.std.specs.Prelude.{Some, None, map, slice_index_or}
use Rattle.std.specs.List.{range_with_len}
use Rattle.std.proofs.lemmas.List.FromFn.{get_or-map-range_with_len}
use native.Mathlib.Decide.{ℕ_discrete}
use Rattle.rtr_types.specs.declared.instr.Instr.{Instr}
use Rattle.replay_core.specs.Orders.{bump, nought}
use Rattle.replay_core.proofs.Counts.{bump_here, bump_more, bump_same}
use Rattle.tso_replay.specs.Laws.{Inside}
use Rattle.replay_core.specs.Play.{Given, given_by, value_at}
use Rattle.tso_recordings.specs.Plays.{AreGiven, InProgramOrder, IsGiven}
use Rattle.tso_recordings.specs.Tells.{cores_told}
use Rattle.tso_state.specs.Events.{Told, Alone, Ordered, Logged, instr_told}
use Rattle.tso_state.specs.Runs.{values_of}
use Rattle.tso_told.specs.Played.{logged_told}

-- the logged loads of a core, each a count and its word, and those of so many cores
abbrev pub told_values : (core : ℕ) → List Told → List (ℕ × ℕ)
told_values core list = values_of core (logged_told list)

abbrev pub values_by_core : (cores : ℕ) → List Told → List (List (ℕ × ℕ))
values_by_core cores list = map (λ core. told_values core list) (range_with_len 0 cores)

-- it is one of those that are told
abbrev pub IsAmong : List Told → Told → Type 0
IsAmong [] e = ⊥
IsAmong (u ∷ list) e = (u ≡ e) ⊎ IsAmong list e

-- ---- one core's list

-- a value that another count has isn't found
skip : (b : Bool) (at : Instr) (value : ℕ) (rest : List (ℕ × ℕ)) (n : ℕ) → (b ≡ true → at.count ≢ n) →
    value_at (cond b ((at.count, value) ∷ rest) rest) n ≡ value_at rest n
skip true at value rest n other = rw (ne_eqb at.count n (other refl)) refl
skip false at value rest n other = refl

test-true : (m n : ℕ) → eqb m n ≡ true → m ≡ n
test-true m n e =
    elim (ℕ_discrete m n) [
      | yes is ↦ is
      | no ne ↦ absurd
          (let f = ne_eqb m n ne in let both : true ≡ false = sym e ∙ f in cc)
    ]

-- none has a count that isn't above the count so far
none-below : (f : ℕ → ℕ) (list : List Told) (c n : ℕ) → InProgramOrder f list → n ≤ f c →
    value_at (told_values c list) n ≡ None
none-below f [] c n h le = refl
none-below f (Alone at ∷ list) c n h le =
    none-below (bump f at.core) list c n h.1 (let m = bump_more f at.core c in omega arith)
none-below f (Ordered a ∷ list) c n h le =
    none-below (bump f a.at.core) list c n h.1 (let m = bump_more f a.at.core c in omega arith)
none-below f (Logged at word value ∷ list) c n h le =
    skip (eqb at.core c) at value (told_values c list) n
    (λ t is. let same : f at.core ≡ f c = ap f (test-true at.core c t) in let k = h.0 in omega arith)
    ∙ none-below (bump f at.core) list c n h.1 (let m = bump_more f at.core c in omega arith)

-- what is told later has a greater count
told-above : (f : ℕ → ℕ) (list : List Told) (t : Told) → InProgramOrder f list → IsAmong list t →
    f (instr_told t).core < (instr_told t).count
told-above f [] t h is = absurd is
told-above f (u ∷ list) t h (inl e) =
    subst (λ (x : Told). f (instr_told x).core < (instr_told x).count) e (let k = h.0 in omega arith)
told-above f (u ∷ list) t h (inr s) =
    let rest =
    told-above (bump f (instr_told u).core) list t h.1 s in let m = bump_more f (instr_told u).core
    (instr_told t).core in omega arith

-- what the list of its core has for one that is told
abbrev SuitsIn : List Told → Told → Type 0
SuitsIn list (Alone at) = Unit {0}
SuitsIn list (Ordered a) = value_at (told_values a.at.core list) a.at.count ≡ None
SuitsIn list (Logged at word value) = value_at (told_values at.core list) at.count ≡ Some value

-- one more before it changes nothing
later : (f : ℕ → ℕ) (u : Told) (list : List Told) (c n : ℕ) → (instr_told u).count ≡ f (instr_told u).core + 1 →
    bump f (instr_told u).core c < n →
    value_at (told_values c (u ∷ list)) n ≡ value_at (told_values c list) n
later f (Alone at) list c n h lt = refl
later f (Ordered a) list c n h lt = refl
later f (Logged at word value) list c n h lt =
    skip (eqb at.core c) at value (told_values c list) n
    (λ t is.
    let e =
    test-true at.core c t in let same : f at.core
    ≡ f c = ap f e in let one = bump_same f at.core c (sym e) in omega arith)

here : (f : ℕ → ℕ) (list : List Told) (t : Told) → InProgramOrder f (t ∷ list) → SuitsIn (t ∷ list) t
here f list (Alone at) h = tt
here f list (Ordered a) h =
    none-below (bump f a.at.core) list a.at.core a.at.count h.1
    (let one = bump_here f a.at.core in let k = h.0 in omega arith)
here f list (Logged at word value) h = rw (eq-eqb at.core at.core refl, eq-eqb at.count at.count refl) refl

there : (f : ℕ → ℕ) (u : Told) (list : List Told) (t : Told) → InProgramOrder f (u ∷ list) → IsAmong list t →
    SuitsIn list t → SuitsIn (u ∷ list) t
there f u list (Alone at) h told s = tt
there f u list (Ordered a) h told s =
    later f u list a.at.core a.at.count h.0 (told-above (bump f (instr_told u).core) list (Ordered a) h.1 told) ∙ s
there f u list (Logged at word value) h told s =
    later f u list at.core at.count h.0 (told-above (bump f (instr_told u).core) list (Logged at word value) h.1 told) ∙ s

suits-in : (f : ℕ → ℕ) (list : List Told) (t : Told) → InProgramOrder f list → IsAmong list t → SuitsIn list t
suits-in f [] t h is = absurd is
suits-in f (u ∷ list) t h (inl e) = subst (λ (x : Told). SuitsIn (u ∷ list) x) e (here f list u h)
suits-in f (u ∷ list) t h (inr s) = there f u list t h s (suits-in (bump f (instr_told u).core) list t h.1 s)

-- ---- the lists of all cores

list-of : (cores : ℕ) (list : List Told) (c : ℕ) → c < cores →
    slice_index_or (values_by_core cores list) c [] ≡ told_values c list
list-of cores list c lt = get_or-map-range_with_len (λ core. told_values core list) 0 cores c c [] lt (omega arith)

told-inside : (cores : ℕ) (list : List Told) (t : Told) → Inside cores (cores_told list) → IsAmong list t →
    (instr_told t).core < cores
told-inside cores [] t h is = absurd is
told-inside cores (u ∷ list) t h (inl e) = subst (λ (x : Told). (instr_told x).core < cores) e h.0
told-inside cores (u ∷ list) t h (inr s) = told-inside cores list t h.1 s

suits-by : (cores : ℕ) (list : List Told) (t : Told) → (instr_told t).core < cores → SuitsIn list t →
    IsGiven (given_by (values_by_core cores list)) t
suits-by cores list (Alone at) lt s = tt
suits-by cores list (Ordered a) lt s =
    ap (λ (l : List (ℕ × ℕ)). value_at l a.at.count) (list-of cores list a.at.core lt) ∙ s
suits-by cores list (Logged at word value) lt s =
    ap (λ (l : List (ℕ × ℕ)). value_at l at.count) (list-of cores list at.core lt) ∙ s

-- what suits each is given to each
are-given : (given : Given) (list : List Told) → ((e : Told) → IsAmong list e → IsGiven given e) → AreGiven given list
are-given given [] suits = tt
are-given given (e ∷ list) suits = (suits e (inl refl), are-given given list (λ x is. suits x (inr is)))

module _ (cores : ℕ) (list : List Told) (order : InProgramOrder nought list) (inside : Inside cores (cores_told list))
  where
    -- each is given its own
    pub values_given : AreGiven (given_by (values_by_core cores list)) list
    values_given =
        are-given (given_by (values_by_core cores list)) list
        (λ e is. suits-by cores list e (told-inside cores list e inside is) (suits-in nought list e order is))
