-- The accesses of a closed table, by core.
use Rattle.std.proofs.Common.{inl, inr, ⊎_elim, ◌≡◌, ℕ, zero, suc, ◌<◌, ◌≤◌, Bool, true, false, cond, eqb}
use Rattle.std.proofs.Common.{eq-eqb, ne_eqb, List, [], ◌∷◌, length, map, get_or}
use Rattle.std.proofs.Common.{sym, refl, ap, ◌∙◌, subst, arith}
use Rattle.std.specs.Prelude.{slice_index_or}
use Rattle.std.specs.List.{Contains, range_with_len}
use Rattle.std.proofs.lemmas.List.{get_or_default}
use Rattle.std.proofs.lemmas.List.Elements.{Contains-append_right, Contains-append_cases}
use Rattle.std.proofs.lemmas.List.FromFn.{length-map-range_with_len, get_or-map-range_with_len}
use native.Mathlib.Decide.{dec_lt, ℕ_discrete}
use Rattle.rtr_types.specs.declared.access.Access.{Access}
use Rattle.conflict_edge.specs.Conflicts.{CountsRise, StandsIn}
use Rattle.replay_core.specs.Plans.{Plan, plan_of}
use Rattle.replay_core.specs.Play.{start, accesses_of}
use Rattle.replay_core.specs.Orders.{nought}
use Rattle.replay_core.proofs.Places.{start_known}
use Rattle.replay_audit.specs.declared.touch.Touch.{Touch}
use Rattle.replay_audit.specs.Touches.{touches_of, as_touch, AreRising, AreTouches}
use Rattle.replay_audit.proofs.Rise.{rises}
use Rattle.replay_table.specs.Accesses.{touches_by}
use Rattle.replay_table.specs.Laws.{EndPlayedLaw}

-- ---- one more at the front

first-in : (t : Touch) (ts : List Touch) → Contains (t ∷ ts) t
first-in t ts = (0, omega arith, refl)

only-one : (t x : Touch) → Contains (t ∷ []) x → t ≡ x
only-one t x (zero, below, at) = at
only-one t x (suc j, below, at) = absurd (omega arith)

none-in : (x : Touch) → Contains [] x → ⊥
none-in x (j, below, at) = absurd (omega arith)

rising-more : (t : Touch) (ts : List Touch) → ((x : Touch) → Contains ts x → t.at.count < x.at.count) → AreRising ts
    → AreRising (t ∷ ts)
rising-more t ts first rest = record { each = each }
  where
    each : (i j : ℕ) (d : Touch) → i < j → j < length (t ∷ ts) → (slice_index_or (t ∷ ts) i d).at.count <
        (slice_index_or (t ∷ ts) j d).at.count
    each i zero d lt below = absurd (omega arith)
    each zero (suc j) d lt below = let there : j < length ts = omega arith in
        first (get_or ts j d) (j, there, get_or_default ts j (get_or ts j d) d there)
    each (suc i) (suc j) d lt below = rest.each i j d (omega arith) (omega arith)

-- ---- the accesses of one core among a list

-- the list with one more access, by whether it is the core's
abbrev with-one : Bool → Touch → List Touch → List Touch
with-one mine t ts = cond mine (t ∷ ts) ts

forth-by : (list : List Access) (a : Access) (c : ℕ) → a.at.core ≡ c → StandsIn list a → Contains (touches_by c list)
    (as_touch a)
forth-by [] a c e s = absurd s
forth-by (b ∷ rest) a c e (inl q) =
    let mine : eqb b.at.core c ≡ true = eq-eqb b.at.core c (ap (λ (x : Access). x.at.core) q ∙ e) in
    subst (λ (m : Bool). Contains (with-one m (as_touch b) (touches_by c rest)) (as_touch a)) (sym mine)
    (subst (λ (t : Touch). Contains (as_touch b ∷ touches_by c rest) t) (ap as_touch q)
    (first-in (as_touch b) (touches_by c rest)))
forth-by (b ∷ rest) a c e (inr s) = by (eqb b.at.core c) (forth-by rest a c e s)
  where
    by : (mine : Bool) → Contains (touches_by c rest) (as_touch a)
        → Contains (with-one mine (as_touch b) (touches_by c rest)) (as_touch a)
    by true h = Contains-append_right (as_touch b ∷ []) (touches_by c rest) (as_touch a) h
    by false h = h

-- an access of the list, of core c, that is t
abbrev Found : List Access → ℕ → Touch → Type 0
Found list c t = (a : Access) × StandsIn list a × (as_touch a ≡ t) × (a.at.core ≡ c)

back-by : (list : List Access) (c : ℕ) (t : Touch) → Contains (touches_by c list) t → Found list c t
back-by [] c t h = absurd (none-in t h)
back-by (b ∷ rest) c t h = by (ℕ_discrete b.at.core c) h (back-by rest c t)
  where
    later : Found rest c t → Found (b ∷ rest) c t
    later r = (r.0, inr r.1, r.2, r.3)

    by : Dec (b.at.core ≡ c) → Contains (with-one (eqb b.at.core c) (as_touch b) (touches_by c rest)) t
        → (Contains (touches_by c rest) t → Found rest c t) → Found (b ∷ rest) c t
    by (yes e) h go =
        let g : Contains (as_touch b ∷ touches_by c rest) t = subst
        (λ (m : Bool). Contains (with-one m (as_touch b) (touches_by c rest)) t)
        (eq-eqb b.at.core c e) h in
        ⊎_elim (λ q. (b, inl refl, only-one (as_touch b) t q, e)) (λ q. later (go q))
        (Contains-append_cases (as_touch b ∷ []) (touches_by c rest) t g)
    by (no ne) h go = later
        (go (subst (λ (m : Bool). Contains (with-one m (as_touch b) (touches_by c rest)) t) (ne_eqb b.at.core c ne) h))

rising-by : (list : List Access) (c : ℕ) → CountsRise list → AreRising (touches_by c list)
rising-by [] c h = record { each = λ i j d lt below. absurd (omega arith) }
rising-by (b ∷ rest) c h = by (ℕ_discrete b.at.core c) (rising-by rest c h.2)
  where
    by : Dec (b.at.core ≡ c) → AreRising (touches_by c rest)
        → AreRising (with-one (eqb b.at.core c) (as_touch b) (touches_by c rest))
    by (yes e) go = subst (λ (m : Bool). AreRising (with-one m (as_touch b) (touches_by c rest)))
        (sym (eq-eqb b.at.core c e))
        (rising-more (as_touch b) (touches_by c rest)
        (λ x q. let r = back-by rest c x q in
        subst (λ (t : Touch). b.at.count < t.at.count) r.2 (h.1 r.0 r.1 (e ∙ sym r.3))) go)
    by (no ne) go = subst (λ (m : Bool). AreRising (with-one m (as_touch b) (touches_by c rest)))
        (sym (ne_eqb b.at.core c ne)) go

-- ---- those of each core

past-end : (xs : List (List Touch)) (i : ℕ) → length xs ≤ i → slice_index_or xs i [] ≡ []
past-end [] i h = refl
past-end (x ∷ xs) zero h = absurd (omega arith)
past-end (x ∷ xs) (suc i) h = past-end xs i (omega arith)

are-touches : (list : List Access) (n : ℕ) → CountsRise list → ((a : Access) → StandsIn list a → a.at.core < n)
    → AreTouches list n (map (λ c. touches_by c list) (range_with_len 0 n))
are-touches list n rise inside = record {
  all = wide;
  forth = λ a s. subst (λ (l : List Touch). Contains l (as_touch a)) (sym (here a.at.core (inside a s)))
      (forth-by list a a.at.core refl s);
  back = λ c t h. elim (dec_lt c n) [
    | yes lt ↦ back-by list c t (subst (λ (l : List Touch). Contains l t) (here c lt) h)
    | no ge ↦ absurd
        (none-in t (subst (λ (l : List Touch). Contains l t) (past-end all c (let w = wide in omega arith)) h))
  ];
  rising = λ c. elim (dec_lt c n) [
    | yes lt ↦ subst (λ (l : List Touch). AreRising l) (sym (here c lt)) (rising-by list c rise)
    | no ge ↦ subst (λ (l : List Touch). AreRising l) (sym (past-end all c (let w = wide in omega arith)))
        (record { each = λ i j d lt below. absurd (omega arith) })
  ];
}
  where
    all : List (List Touch)
    all = map (λ (c : ℕ). touches_by c list) (range_with_len 0 n)

    wide : length all ≡ n
    wide = length-map-range_with_len (λ (c : ℕ). touches_by c list) 0 n

    here : (c : ℕ) → c < n → touches_of all c ≡ touches_by c list
    here c lt = get_or-map-range_with_len (λ (i : ℕ). touches_by i list) 0 n c c [] lt (omega arith)

pub end_played : EndPlayedLaw
end_played which r e end =
    let p : Plan = plan_of which r in
    let list : List Access = accesses_of p end.order in
    let rise = rises p nought (start p) end.order (start_known p) end.play.ordered in
    record {
      order = end.order;
      play = end.play;
      touches = subst (λ (ts : List (List Touch)). AreTouches list (length r.totals) ts) (sym end.touched)
          (are-touches list (length r.totals) rise.rise rise.inside);
    }
