-- The steps of the scan, at an index.
use Rattle.std.proofs.Common.{◌≡◌, ◌≢◌, ℕ, zero, suc, ◌+◌, ◌-◌, ◌<◌, ◌≤◌, ◌⊎◌, ◌↔◌, List, [], ◌∷◌, reverse, ◌++◌}
use Rattle.std.proofs.Common.{length, refl, sym, ◌∙◌, ap, subst, inl, inr}
use Rattle.std.proofs.Common.{arith, true, false, Bool, max, slice_index, get_or, take, drop, append_assoc}
use Rattle.std.proofs.lemmas.Bool.{cases_eq, cases_lt}
use Rattle.std.proofs.lemmas.List.{drop_more, reverse-append, take-append-drop}
use Rattle.clock_core.proofs.Reach.{same_below}
use Rattle.clock_core.specs.Order.{Among}
use Rattle.conflict_edge.proofs.Clocks.{own_clock}
use Rattle.conflict_edge.proofs.History.{Source, Rising}
use Rattle.conflict_edge.proofs.CoveringPairs.{Cover}
use Rattle.conflict_edge.proofs.Online.{pair_source}
use Rattle.conflict_edge.proofs.NewestFirst.{reverse-cons, reverse-next}
use Rattle.conflict_edge.proofs.Scan.{Direct, Reached, FoundFrom, reached_skip, reached_merge, found_skip, found_push}
use Rattle.conflict_edge.proofs.Scan.{covered_not, not_covered, direct_clock}
use Rattle.conflict_edge.specs.Clocks.{clock}
use Rattle.conflict_edge.specs.Conflicts.{Conflicts, StandsIn, CountsRise}
use Rattle.conflict_edge.specs.Least.{Covering}
use Rattle.conflict_edge.specs.Scan.{AddsCoveringInto}
use Rattle.conflict_edge.proofs.Reach.{cover_now, rising_next}
use Rattle.rtr_types.specs.declared.TheConstants.{CORES_MAX}
use Rattle.rtr_types.specs.declared.access.Access.{Access}
use Rattle.rtr_types.specs.declared.instr.Edge.{Edge}
use Rattle.rtr_types.specs.declared.instr.Instr.{Instr}

-- the list around its element before s
pub record At (e : List Access) (s : ℕ) (b : Access) : Type 0 where
  pub older : List Access
  pub split : reverse e ≡ reverse (drop s e) ++ (b ∷ older)
  pub next : reverse (drop (s - 1) e) ≡ reverse (drop s e) ++ (b ∷ [])

-- what stands before place s
pub at : (e : List Access) (s : ℕ) (d : Access) → 0 < s → s ≤ length e → At e s (get_or e (s - 1) d)
at e s d pos le =
    let one : s - 1 + 1 ≡ s = omega arith in
    let after : drop (s - 1) e ≡ get_or e (s - 1) d ∷ drop s e = drop_more e (s - 1) d (omega arith)
    ∙ ap (λ (n : ℕ). get_or e (s - 1) d ∷ drop n e) one in
    let next : reverse (drop (s - 1) e) ≡ reverse (drop s e) ++ (get_or e (s - 1) d ∷ []) = ap reverse after
    ∙ reverse-cons (get_or e (s - 1) d) (drop s e) in
    record {
      older = reverse (take (s - 1) e);
      split = ap reverse (sym (take-append-drop (s - 1) e)) ∙ reverse-append (take (s - 1) e) (drop (s - 1) e)
          ∙ ap (λ (g : List Access). g ++ reverse (take (s - 1) e)) next
          ∙ append_assoc (reverse (drop s e)) (get_or e (s - 1) d ∷ []) (reverse (take (s - 1) e));
      next = next;
    }

-- what is read at a place stands in the list
pub stands_at : (e : List Access) (i : ℕ) (d : Access) → i < length e → StandsIn e (get_or e i d)
stands_at [] i d lt = absurd (omega arith)
stands_at (a ∷ e) zero d lt = inl refl
stands_at (a ∷ e) (suc i) d lt = inr (stands_at e i d (omega arith))

-- the steps of the scan, at a place of the list in order
pub skip_reached : (e : List Access) (s : ℕ) (a b : Access) (m : ℕ → ℕ) → At e s b → (Direct b a → ⊥) →
    Reached (reverse e) (reverse (drop s e)) a m →
    Reached (reverse e) (reverse (drop (s - 1) e)) a m
skip_reached e s a b m around f r =
    subst (λ (g : List Access). Reached (reverse e) g a m) (sym around.next) (reached_skip (reverse e)
    (reverse (drop s e)) a b m f r)

pub merge_reached : (e : List Access) (s : ℕ) (a b : Access) (m c w : ℕ → ℕ) → At e s b → Direct b a →
    ((i : ℕ) → i < CORES_MAX → c i ≡ clock (reverse e) b.at i) → ((i : ℕ) → w i ≡ max (m i) (c i)) →
    Reached (reverse e) (reverse (drop s e)) a m →
    Reached (reverse e) (reverse (drop (s - 1) e)) a w
merge_reached e s a b m c w around direct exact merged r =
    subst (λ (g : List Access). Reached (reverse e) g a w) (sym around.next) (reached_merge (reverse e)
    (reverse (drop s e)) a b m c w direct r exact merged)

pub skip_found : (e : List Access) (s : ℕ) (a b : Access) (old new : List Edge) → At e s b →
    (Cover (a ∷ reverse e) b.at a.at → ⊥) →
    FoundFrom (reverse e) (reverse (drop s e)) a old new → FoundFrom (reverse e) (reverse (drop (s - 1) e)) a old new
skip_found e s a b old new around f r =
    subst (λ (g : List Access). FoundFrom (reverse e) g a old new) (sym around.next)
    (found_skip (reverse e) (reverse (drop s e)) a b old new f r)

pub push_found : (e : List Access) (s : ℕ) (a b : Access) (old new next : List Edge) (edge : Edge) → At e s b →
    edge.from ≡ b.at → edge.to ≡ a.at →
    next ≡ new ++ (edge ∷ []) → Cover (a ∷ reverse e) b.at a.at → FoundFrom (reverse e) (reverse (drop s e)) a old new →
    FoundFrom (reverse e) (reverse (drop (s - 1) e)) a old next
push_found e s a b old new next edge around from_is to_is is c r =
    subst (λ (g : List Access). FoundFrom (reverse e) g a old next) (sym around.next)
    (found_push (reverse e) (reverse (drop s e)) a b old new next edge from_is to_is is c r)

-- where they don't conflict there is no pair
pub no_conflict : (e : List Access) (a b : Access) → Rising (a ∷ reverse e) → StandsIn (reverse e) b →
    (Conflicts b a → ⊥) → Cover (a ∷ reverse e) b.at a.at → ⊥
no_conflict e a b rising stands f c = by (pair_source a (reverse e) b.at rising c.0)
  where
    by : Source (reverse e) a b.at → ⊥
    by s = f (subst (λ (d : Access). Conflicts d a) (same s.0 s.1 s.2) s.3)
      where
        same : (d : Access) → StandsIn (reverse e) d → d.at ≡ b.at → d ≡ b
        same d t q = once (reverse e) rising.2 t stands
          where
            once : (h : List Access) → Rising h → StandsIn h d → StandsIn h b → d ≡ b
            once [] r t u = absurd t
            once (x ∷ h) r (inl p) (inl q') = sym p ∙ q'
            once (x ∷ h) r (inl p) (inr u) =
                let core : x.at.core ≡ b.at.core = ap (λ (v : Access). v.at.core) p ∙ ap (λ (v : Instr). v.core) q in
                let count : x.at.count ≡ b.at.count = ap (λ (v : Access). v.at.count) p
                ∙ ap (λ (v : Instr). v.count) q in
                let lt = r.1 b u (sym core) in absurd (omega arith)
            once (x ∷ h) r (inr t) (inl p) =
                let core : x.at.core ≡ d.at.core = ap (λ (v : Access). v.at.core) p
                ∙ ap (λ (v : Instr). v.core) (sym q) in
                let count : x.at.count ≡ d.at.count = ap (λ (v : Access). v.at.count) p
                ∙ ap (λ (v : Instr). v.count) (sym q) in
                let lt = r.1 d t (sym core) in absurd (omega arith)
            once (x ∷ h) r (inr t) (inr u) = once h r.2 t u

-- a conflicting access that the clock lacks is a covering source
pub uncovered : (e : List Access) (s : ℕ) (a b : Access) (m : ℕ → ℕ) → At e s b → Rising (a ∷ reverse e) →
    b.at.core < CORES_MAX → Conflicts b a →
    Reached (reverse e) (reverse (drop s e)) a m → m b.at.core < b.at.count → Cover (a ∷ reverse e) b.at a.at
uncovered e s a b m around rising fits conflict r lt =
    subst (λ (h : List Access). Cover (a ∷ h) b.at a.at) (sym around.split)
    (not_covered (reverse (drop s e)) b around.older a m (subst (λ (h : List Access). Rising (a ∷ h)) around.split
    rising) fits conflict
    (subst (λ (h : List Access). Reached h (reverse (drop s e)) a m) around.split r) lt)

-- one that the clock has is none
pub covered : (e : List Access) (s : ℕ) (a b : Access) (m : ℕ → ℕ) → At e s b → Rising (a ∷ reverse e) →
    b.at.core < CORES_MAX →
    Reached (reverse e) (reverse (drop s e)) a m → b.at.count ≤ m b.at.core → Cover (a ∷ reverse e) b.at a.at → ⊥
covered e s a b m around rising fits r le c =
    covered_not (reverse (drop s e)) b around.older a m (subst (λ (h : List Access). Rising (a ∷ h)) around.split
    rising) fits
    (subst (λ (h : List Access). Reached h (reverse (drop s e)) a m) around.split r) le
    (subst (λ (h : List Access). Cover (a ∷ h) b.at a.at) around.split c)

-- ---- tests

-- the greater number where the test for at most fails
pub test_no : (r : Bool) (n m : ℕ) → (r ≡ true → n ≤ m) × (n ≤ m → r ≡ true) → r ≡ false → m < n
test_no r n m h e = by (cases_lt m n)
  where
    by : (m < n) ⊎ (n ≤ m) → m < n
    by (inl lt) = lt
    by (inr le) = let t : true ≡ false = sym (h.1 le) ∙ e in absurd cc

-- a fact fails where its test does
pub fact_no : (P : Type 0) (r : Bool) → (P → r ≡ true) → r ≡ false → P → ⊥
fact_no P r holds e p = let t : true ≡ false = sym (holds p) ∙ e in absurd cc

-- what shares no core with a and does not conflict with it leads to it by no step
pub not_direct : (b a : Access) → (b.at.core ≡ a.at.core → ⊥) → (Conflicts b a → ⊥) → Direct b a → ⊥
not_direct b a f g (inl e) = f e
not_direct b a f g (inr k) = g k

-- ---- the ends

-- after the oldest access the clock with the own count is exact
pub end_clock : (e : List Access) (a : Access) (m w : List ℕ) → Rising (a ∷ reverse e) →
    Reached (reverse e) (reverse e) a (λ i. slice_index m i) →
    slice_index w a.at.core ≡ a.at.count → ((i : ℕ) → i ≢ a.at.core → slice_index w i ≡ slice_index m i) → (i : ℕ) →
    i < CORES_MAX →
    slice_index w i ≡ clock (reverse (e ++ (a ∷ []))) a.at i
end_clock e a m w rising reached own others i lt = by (cases_eq i a.at.core)
    ∙ ap (λ (h : List Access). clock h a.at i) (sym (reverse-next e a))
  where
    by : (i ≡ a.at.core) ⊎ (i ≢ a.at.core) → slice_index w i ≡ clock (a ∷ reverse e) a.at i
    by (inl f) = ap (λ (k : ℕ). slice_index w k) f ∙ own ∙ sym (own_clock (a ∷ reverse e) a.at rising)
        ∙ ap (λ (k : ℕ). clock (a ∷ reverse e) a.at k) (sym f)
    by (inr d) = others i d ∙ same_below (slice_index m i) (clock (a ∷ reverse e) a.at i) same
      where
        same : (k : ℕ) → 1 ≤ k → (k ≤ slice_index m i) ↔ (k ≤ clock (a ∷ reverse e) a.at i)
        same k pos = (
          λ le. (direct_clock (reverse e) a i k rising d pos).1 ((reached i k lt pos).0 le),
          λ le. (reached i k lt pos).1 ((direct_clock (reverse e) a i k rising d pos).0 le),
        )

-- after the oldest access the covering pairs are found
pub end_found : (e : List Access) (a : Access) (old new : List Edge) → CountsRise (e ++ (a ∷ [])) →
    FoundFrom (reverse e) (reverse e) a old new →
    AddsCoveringInto (e ++ (a ∷ [])) a old new
end_found e a old new rise found x y = (λ s. to ((found x y).0 s), λ q. (found x y).1 (back q))
  where
    to : Among old x y ⊎ ((y ≡ a.at) × (r : Access) × StandsIn (reverse e) r × (r.at ≡ x) × Cover (a ∷ reverse e) x
        a.at) → Among old x y
        ⊎ ((y ≡ a.at) × Covering (e ++ (a ∷ [])) x a.at)
    to (inl s) = inl s
    to (inr q) = inr (q.0, (cover_now e a x).0 q.4)

    back : Among old x y ⊎ ((y ≡ a.at) × Covering (e ++ (a ∷ [])) x a.at) → Among old x y
        ⊎ ((y ≡ a.at) × (r : Access) × StandsIn (reverse e) r × (r.at ≡ x) × Cover (a ∷ reverse e) x a.at)
    back (inl s) = inl s
    back (inr q) =
        let c = (cover_now e a x).1 q.1 in
        let s = pair_source a (reverse e) x (rising_next e a rise) c.0 in
        inr (q.0, s.0, s.1, s.2, c)
