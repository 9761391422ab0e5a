-- Edge ends, and the last entry at or before an instruction.
use Rattle.std.proofs.Common.{inl, inr, ◌≡◌, ◌⊎◌, ℕ, zero, suc, ◌+◌, ◌-◌, ◌≤◌, List, [], ◌∷◌, ◌++◌, length, refl, sym}
use Rattle.std.proofs.Common.{ap, ◌∙◌, subst, arith, true, false, Bool}
use Rattle.std.proofs.Common.{◌||◌}
use Rattle.std.specs.Prelude.{slice_index}
use Rattle.std.proofs.lemmas.Bool.Decides.{nat_tests}
use Rattle.std.proofs.lemmas.Bool.{cases_Bool}
use Rattle.rtr_types.specs.declared.instr.Instr.{Instr}
use Rattle.rtr_types.specs.declared.instr.Edge.{Edge}
use Rattle.rtr_types.proofs.Instrs.{instr_eq}
use Rattle.clock_core.specs.Order.{Among}
use Rattle.clock_core.proofs.Paths.{same_instr}
use Rattle.clock_entries.specs.Ends.{instr, is_same, is_end, IsEnd, ends_to, entry_at, entry_of, Clocks}
use Rattle.clock_entries.specs.Entries.{Entry, IsLastEntry}
use Rattle.clock_entries.specs.Laws.{IsLog, LastEntryLaw}

pub same_is : (x y : Instr) → x ≡ y → is_same x y ≡ true
same_is x y e =
    let a : x.core ≡ y.core = ap (λ (z : Instr). z.core) e in
    let b : x.count ≡ y.count = ap (λ (z : Instr). z.count) e in
    grind (arith, nat_tests)

or_first : (a b c : Bool) → a ≡ true → (a || b) || c ≡ true
or_first true b c e = refl
or_first false b c e = absurd (cc)

or_second : (a b c : Bool) → b ≡ true → (a || b) || c ≡ true
or_second true b c e = refl
or_second false true c e = refl
or_second false false c e = absurd (cc)

or_last : (a b : Bool) → b ≡ true → a || b ≡ true
or_last true b e = refl
or_last false b e = e

pub end_source : (edges : List Edge) (x y : Instr) → Among edges x y → IsEnd edges x
end_source [] x y a = absurd a
end_source (e ∷ edges) x y (inl p) =
    or_first (is_same e.from x) (is_same e.to x) (is_end edges x) (same_is e.from x p.0)
end_source (e ∷ edges) x y (inr a) =
    or_last (is_same e.from x || is_same e.to x) (is_end edges x) (end_source edges x y a)

pub end_target : (edges : List Edge) (x y : Instr) → Among edges x y → IsEnd edges y
end_target [] x y a = absurd a
end_target (e ∷ edges) x y (inl p) = or_second (is_same e.from y) (is_same e.to y) (is_end edges y) (same_is e.to y p.1)
end_target (e ∷ edges) x y (inr a) =
    or_last (is_same e.from y || is_same e.to y) (is_end edges y) (end_target edges x y a)

or_cases : (a b c : Bool) → (a || b) || c ≡ true → (a ≡ true) ⊎ ((b ≡ true) ⊎ (c ≡ true))
or_cases true b c e = inl refl
or_cases false true c e = inr (inl refl)
or_cases false false c e = inr (inr e)

pub end_edge : (edges : List Edge) (x : Instr) → IsEnd edges x → (y : Instr) × (Among edges x y ⊎ Among edges y x)
end_edge [] x end = absurd (cc)
end_edge (e ∷ edges) x end = by (or_cases (is_same e.from x) (is_same e.to x) (is_end edges x) end) (end_edge edges x)
  where
    on : (y : Instr) × (Among edges x y ⊎ Among edges y x) →
        (y : Instr) × (Among (e ∷ edges) x y ⊎ Among (e ∷ edges) y x)
    on (y, inl a) = (y, inl (inr a))
    on (y, inr a) = (y, inr (inr a))

    by : (is_same e.from x ≡ true) ⊎ ((is_same e.to x ≡ true) ⊎ (is_end edges x ≡ true)) →
        (IsEnd edges x → (y : Instr) × (Among edges x y ⊎ Among edges y x)) →
        (y : Instr) × (Among (e ∷ edges) x y ⊎ Among (e ∷ edges) y x)
    by (inl t) go = (e.to, inl (inl (same_instr e.from x t, refl)))
    by (inr (inl t)) go = (e.from, inr (inl (refl, same_instr e.to x t)))
    by (inr (inr t)) go = on (go t)

pub end_counts : (edges : List Edge) (x : Instr) → IsLog edges → IsEnd edges x → 1 ≤ x.count
end_counts edges x log end = by (end_edge edges x end)
  where
    by : (y : Instr) × (Among edges x y ⊎ Among edges y x) → 1 ≤ x.count
    by (y, inl a) = log.sources x y a
    by (y, inr a) = log.targets y x a

pub not_end : (edges : List Edge) (x : Instr) → is_end edges x ≡ false → IsEnd edges x → ⊥
not_end edges x f t = absurd (cc)

pub minus_one : (n : ℕ) → suc n - 1 ≡ n
minus_one n = omega arith

pub ends_stay : (edges : List Edge) (c n : ℕ) → is_end edges (instr c (suc n)) ≡ false →
    ends_to edges c (suc n) ≡ ends_to edges c n
unfolding ends_to
ends_stay edges c n f = rw f refl

pub ends_more : (edges : List Edge) (c n : ℕ) → is_end edges (instr c (suc n)) ≡ true →
    ends_to edges c (suc n) ≡ ends_to edges c n ++ suc n ∷ []
unfolding ends_to
ends_more edges c n f = rw f refl

pub ends_none : (edges : List Edge) (c : ℕ) → ends_to edges c 0 ≡ []
unfolding ends_to
ends_none edges c = refl

-- the same, as code counts
pub ends_push : (edges : List Edge) (c n : ℕ) → is_end edges (instr c (n + 1)) ≡ true →
    ends_to edges c (n + 1) ≡ ends_to edges c n ++ (n + 1) ∷ []
ends_push edges c n =
    let e : suc n ≡ n + 1 = omega arith in
    subst (λ (m : ℕ). is_end edges (instr c m) ≡ true → ends_to edges c m ≡ ends_to edges c n ++ m ∷ []) e
    (ends_more edges c n)

pub ends_keep : (edges : List Edge) (c n : ℕ) → is_end edges (instr c (n + 1)) ≡ false →
    ends_to edges c (n + 1) ≡ ends_to edges c n
ends_keep edges c n =
    let e : suc n ≡ n + 1 = omega arith in
    subst (λ (m : ℕ). is_end edges (instr c m) ≡ false → ends_to edges c m ≡ ends_to edges c n) e (ends_stay edges c n)

stays_at : (edges : List Edge) (clocks : Clocks) (c n i : ℕ) → (IsEnd edges (instr c (suc n)) → ⊥) →
    (is_end edges (instr c (suc n)) ≡ true) ⊎ (is_end edges (instr c (suc n)) ≡ false) →
    entry_of edges clocks (instr c (suc n)) i ≡ entry_of edges clocks (instr c n) i
stays_at edges clocks c n i ne (inl t) = absurd (ne t)
stays_at edges clocks c n i ne (inr f) =
    ap (λ (l : List ℕ). slice_index (entry_at clocks c (length l)) i) (ends_stay edges c n f)

stays_by : (edges : List Edge) (clocks : Clocks) (c m n i : ℕ) → m ≡ suc n → (IsEnd edges (instr c m) → ⊥) →
    entry_of edges clocks (instr c m) i ≡ entry_of edges clocks (instr c n) i
stays_by edges clocks c m n i e =
    subst (λ (k : ℕ). (IsEnd edges (instr c k) → ⊥) →
    entry_of edges clocks (instr c k) i ≡ entry_of edges clocks (instr c n) i) (sym e)
    (λ ne. stays_at edges clocks c n i ne (cases_Bool (is_end edges (instr c (suc n)))))

pub last_entry_law : LastEntryLaw
last_entry_law edges clocks = record {
  none = λ c i. ap (λ (l : List ℕ). slice_index (entry_at clocks c (length l)) i) (ends_none edges c);
  stays = λ y pos ne i. stays_by edges clocks y.core y.count (y.count - 1) i (omega arith) ne;
}

-- the last edge end at or before y on its core
pub record Floor (edges : List Edge) (entry : Entry) (y : Instr) : Type 0 where
  pub at : Instr
  pub is_one : IsEnd edges at
  pub core : at.core ≡ y.core
  pub count : at.count ≤ y.count
  pub latest : (w : Instr) → IsEnd edges w → w.core ≡ y.core → w.count ≤ y.count → w.count ≤ at.count
  pub same : (i : ℕ) → entry y i ≡ entry at i

-- there is none
pub record NoFloor (edges : List Edge) (entry : Entry) (y : Instr) : Type 0 where
  pub none : (w : Instr) → IsEnd edges w → w.core ≡ y.core → w.count ≤ y.count → ⊥
  pub same : (i : ℕ) → entry y i ≡ 0

pub at_most : (m n : ℕ) → m ≤ suc n → (m ≡ suc n) ⊎ (m ≤ n)
at_most m n le = grind arith

pub floor : (edges : List Edge) (entry : Entry) → IsLog edges → IsLastEntry edges entry → (c n : ℕ) →
    Floor edges entry (instr c n) ⊎ NoFloor edges entry (instr c n)
floor edges entry log last c zero = inr (record {
  none = λ w end e le. let pos = end_counts edges w log end in omega arith;
  same = λ i. last.none c i;
})
floor edges entry log last c (suc n) = by (cases_Bool (is_end edges (instr c (suc n)))) (floor edges entry log last c n)
  where
    before : is_end edges (instr c (suc n)) ≡ false → (i : ℕ) → entry (instr c (suc n)) i ≡ entry (instr c n) i
    before f i =
        last.stays (instr c (suc n)) (omega arith) (not_end edges (instr c (suc n)) f) i
        ∙ ap (λ (k : ℕ). entry (instr c k) i) (minus_one n)

    earlier : is_end edges (instr c (suc n)) ≡ false → (w : Instr) → IsEnd edges w → w.core ≡ c → w.count ≤ suc n →
        w.count ≤ n
    earlier f w end e le = on (at_most w.count n le)
      where
        on : (w.count ≡ suc n) ⊎ (w.count ≤ n) → w.count ≤ n
        on (inl q) =
            absurd (not_end edges (instr c (suc n)) f
            (subst (λ (z : Instr). IsEnd edges z) (instr_eq w (instr c (suc n)) e q) end))
        on (inr le) = le

    by : (is_end edges (instr c (suc n)) ≡ true) ⊎ (is_end edges (instr c (suc n)) ≡ false) →
        Floor edges entry (instr c n) ⊎ NoFloor edges entry (instr c n) →
        Floor edges entry (instr c (suc n)) ⊎ NoFloor edges entry (instr c (suc n))
    by (inl t) _ = inl (record {
      at = instr c (suc n);
      is_one = t;
      core = refl;
      count = omega arith;
      latest = λ w end e le. le;
      same = λ i. refl;
    })
    by (inr f) (inl w) = let le = w.count in inl (record {
      at = w.at;
      is_one = w.is_one;
      core = w.core;
      count = omega arith;
      latest = λ v end e le. w.latest v end e (earlier f v end e le);
      same = λ i. before f i ∙ w.same i;
    })
    by (inr f) (inr z) = inr (record {
      none = λ v end e le. z.none v end e (earlier f v end e le);
      same = λ i. before f i ∙ z.same i;
    })

-- an instruction whose entry has something has an edge end at or before it
pub floor_of : (edges : List Edge) (entry : Entry) → IsLog edges → IsLastEntry edges entry → (y : Instr) (n i : ℕ) →
    1 ≤ n → n ≤ entry y i →
    Floor edges entry y
floor_of edges entry log last y n i pos le = by (floor edges entry log last y.core y.count)
  where
    by : Floor edges entry y ⊎ NoFloor edges entry y → Floor edges entry y
    by (inl w) = w
    by (inr z) = let e = z.same i in absurd (omega arith)
