-- The edges of a valid recording can be counted.
use Rattle.std.proofs.Common.{ℕ, ◌-◌, ◌*◌, ◌^◌, ◌<◌, ◌≤◌, List, [], length, get_or, subst, arith, inl, inr}
use Rattle.std.specs.Prelude.{sum_by, slice_index}
use Rattle.std.proofs.Math.Nat.{mul-le-mul_left}
use Rattle.std.proofs.lemmas.List.{get_or_default, get_or_past}
use Rattle.std.proofs.lemmas.List.Sums.{sum_by-le}
use Rattle.std.proofs.lemmas.Bool.{cases_lt}
use Rattle.rtr_types.specs.Pairs.{pair_count}
use Rattle.rtr_types.specs.declared.TheConstants.{CORES_MAX}
use Rattle.stride_vector.specs.declared.StrideVector.{StrideVector}
use Rattle.race_log.specs.declared.recording.Recording.{Recording}
use Rattle.race_log.specs.Validity.{Valid, bound_at}
use Rattle.race_log.specs.Counts.{position_count}
use Rattle.race_log.proofs.Logs.{few_edges, few_positions}
use Rattle.race_log.proofs.Parts.{bound-most}

-- the pairs of as many cores as there may be
pub few-pairs : (cores : ℕ) → cores ≤ CORES_MAX → pair_count cores ≤ CORES_MAX * CORES_MAX
few-pairs cores few =
    let one = mul-le-mul_left {m = cores - 1} {n = CORES_MAX} cores (omega arith) in
    let two = mul-le-mul_left {m = cores} {n = CORES_MAX} CORES_MAX few in
    omega arith

-- many lists of few elements
product-fits : (lists most : ℕ) → lists ≤ CORES_MAX * CORES_MAX → most < 2 ^ 32 → lists * most < 2 ^ 64
product-fits lists most few small =
    let one = mul-le-mul_left {m = most} {n = 2 ^ 32} lists (omega arith) in
    omega arith

pub edges_fit : (r : Recording) → Valid r → sum_by (λ edges. length edges) r.reduced < 2 ^ 64
edges_fit r v =
    let params = v.params in
    let each = v.each_reduced in
    let few = few-pairs r.params.cores (omega arith) in
    let sum = sum_by-le (λ (edges : List (ℕ × ℕ)). length edges) r.params.limit r.reduced (λ place d lt.
    let are = v.reduced place (subst (λ (n : ℕ). place < n) each lt) in
    let count = few_edges (bound_at r.totals place) (get_or r.reduced place []) are in
    let most = bound-most r place v in
    subst (λ (edges : List (ℕ × ℕ)). length edges ≤ r.params.limit) (get_or_default r.reduced place [] d lt)
    (omega arith)) in
    let product = product-fits (length r.reduced) r.params.limit (omega arith) (omega arith) in
    omega arith

pub positions_fit : (r : Recording) → Valid r → sum_by position_count r.regulated < 2 ^ 64
positions_fit r v =
    let params = v.params in
    let each = v.each_regulated in
    let few = few-pairs r.params.cores (omega arith) in
    let sum = sum_by-le position_count r.params.limit r.regulated (λ place d lt.
    let are = v.regulated place (subst (λ (n : ℕ). place < n) each lt) in
    let count = few_positions (bound_at r.totals place) (get_or r.regulated place []) are in
    let most = bound-most r place v in
    subst (λ (vectors : List StrideVector). position_count vectors ≤ r.params.limit)
    (get_or_default r.regulated place [] d lt) (omega arith)) in
    let product = product-fits (length r.regulated) r.params.limit (omega arith) (omega arith) in
    omega arith

-- totals are numbers that a recording spells
pub totals_small : (r : Recording) → Valid r → (c : ℕ) → slice_index r.totals c < 2 ^ 32
totals_small r valid c = elim (cases_lt c (length r.totals)) [
  | inl lt ↦ let a = valid.totals c 0 lt in let b = valid.params.limit in omega arith
  | inr past ↦ let e = get_or_past r.totals c 0 past in omega arith
]
