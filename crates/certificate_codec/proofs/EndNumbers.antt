-- The number of ends up to a count, by the ends on its two sides.
use Rattle.std.proofs.Common.{inl, inr, ◌≡◌, ◌⊎◌, ℕ, ◌-◌, ◌<◌, ◌≤◌, List, length, subst, arith}
use Rattle.std.proofs.lemmas.Bool.{cases_order}
use Rattle.rtr_types.specs.declared.instr.Edge.{Edge}
use Rattle.clock_entries.specs.Ends.{ends_to}
use Rattle.clock_entries.proofs.Numbers.{at_low, at_high, fronted}
use Rattle.certificate_codec.specs.Ends.{IsNumber}

between : (edges : List Edge) (c m n k : ℕ) → m ≤ n → IsNumber (ends_to edges c n) m k → k ≡ length (ends_to edges c m)
between edges c m n k le h = by (cases_order k (length (ends_to edges c m)))
  where
    less : k < length (ends_to edges c m) → ⊥
    less lt =
        let same = fronted edges c m n k le lt in
        let low = (at_low edges c m k lt).1 in
        let high = h.above in
        omega arith

    more : length (ends_to edges c m) < k → ⊥
    more lt =
        let within = h.within in
        let high = at_high edges c m n (k - 1) le (omega arith) (omega arith) in
        let low = h.below (omega arith) in
        omega arith

    by : (k ≡ length (ends_to edges c m)) ⊎ ((k < length (ends_to edges c m)) ⊎ (length (ends_to edges c m) < k)) →
        k ≡ length (ends_to edges c m)
    by (inl same) = same
    by (inr (inl lt)) = absurd (less lt)
    by (inr (inr lt)) = absurd (more lt)

pub number_is : (edges : List Edge) (c m n k : ℕ) (list : List ℕ) → list ≡ ends_to edges c n → m ≤ n →
    IsNumber list m k → k ≡ length (ends_to edges c m)
number_is edges c m n k list is le h = between edges c m n k le (subst (λ (l : List ℕ). IsNumber l m k) is h)
