-- How many steps a machine may take from its start.
use Rattle.std.proofs.Common.{◌≡◌, ◌∙◌, refl, ap, ℕ, zero, suc, ◌+◌, ◌*◌, ◌≤◌, true, List, [], ◌∷◌, length, arith}
use Rattle.std.specs.Prelude.{map, replicate}
use Rattle.std.specs.List.{range_with_len, sum_by}
use Rattle.std.proofs.lemmas.List.FromFn.{length-map-range_with_len, length-range_with_len}
use Rattle.std.proofs.lemmas.List.Sums.{sum_by-cons}
use Rattle.access_times.specs.Riding.{Carrying, Riding}
use Rattle.image_mem.specs.Contents.{Contents}
use Rattle.rtr_types.specs.declared.TheConstants.{LINES}
use Rattle.rtr_types.specs.declared.params.Params.{Params}
use Rattle.rv_core.proofs.LawLemmas.{start_law}
use Rattle.rv_core.specs.States.{starting}
use Rattle.msi_cache.specs.Lines.{empty_line}
use Rattle.msi_memory.specs.Memories.{port_start}
use Rattle.machine_bound.specs.Bound.{capacity, left, total_owed}
use Rattle.machine_bound.specs.Ends.{most_steps}
use Rattle.machine_bound.proofs.RunEnds.{owed_start}
use Rattle.msi_state.specs.States.{State, state_start}
use Rattle.tso_bound.specs.Bound.{capacity as tso_capacity, core_cost, empty_worth, left as tso_left, lines_worth}
use Rattle.tso_bound.specs.Bound.{port_worth}
use Rattle.tso_bound.specs.Ends.{most_steps as tso_most_steps}
use Rattle.tso_state.specs.States.{State as TsoState, buffered_start, state_start as tso_state_start}

one_more : (x y n : ℕ) → x * y + x * (n * y) ≡ x * (suc n * y)
one_more x y n = grind arith

-- ---- without buffers

capacity_start : (limit n : ℕ) (ids : List ℕ) →
    sum_by (capacity n) (map (λ id. starting id limit) ids) ≡ (2 * n + 4) * (length ids * limit)
capacity_start limit n [] = omega arith
capacity_start limit n (id ∷ ids) =
    let first : capacity n (starting id limit) ≡ (2 * n + 4) * limit =
    ap (λ (x : ℕ). (2 * n + 4) * x) (start_law id limit).1 in
    let rest = capacity_start limit n ids in
    sum_by-cons (capacity n) (starting id limit) (map (λ (x : ℕ). starting x limit) ids)
    ∙ (rw (first, rest) (one_more (2 * n + 4) limit (length ids)))

pub few_left : {R K : Type 0} (riding : Riding R) (carrying : Carrying K) (image : Contents) (params : Params) →
    total_owed (state_start riding carrying image params.cores params.limit) ≡ 0 →
    left riding (state_start riding carrying image params.cores params.limit) ≤ most_steps params
few_left {R} {K} riding carrying image params idle =
    let s : State R K = state_start riding carrying image params.cores params.limit in
    let many : length s.cores ≡ params.cores =
    length-map-range_with_len (λ (id : ℕ). starting id params.limit) 0 params.cores in
    let all : sum_by (capacity (length s.cores)) s.cores ≡ most_steps params =
    ap (λ (n : ℕ). sum_by (capacity n) s.cores) many
    ∙ capacity_start params.limit params.cores (range_with_len 0 params.cores)
    ∙ ap (λ (n : ℕ). (2 * params.cores + 4) * (n * params.limit)) (length-range_with_len 0 params.cores) in
    omega (arith, all, idle)

-- ---- with buffers

empty_lines : {R : Type 0} (fresh : R) (n k : ℕ) → lines_worth true n (replicate k (empty_line fresh)) ≡ 3 * k
empty_lines fresh n zero = refl
empty_lines fresh n (suc k) =
    let rest = empty_lines fresh n k in
    let one : lines_worth true n (replicate (suc k) (empty_line fresh)) ≡ 3 + lines_worth true n
    (replicate k (empty_line fresh)) =
    sum_by-cons _ (empty_line fresh) (replicate k (empty_line fresh)) in
    let three : 3 * suc k ≡ 3 + 3 * k = omega arith in
    omega arith

worth_start : {R K : Type 0} (riding : Riding R) (carrying : Carrying K) (n cores : ℕ) →
    sum_by (port_worth n) (replicate cores (port_start riding carrying)) ≡ cores * empty_worth
worth_start riding carrying n zero = refl
worth_start riding carrying n (suc cores) =
    let rest = worth_start riding carrying n cores in
    let first : port_worth n (port_start riding carrying) ≡ empty_worth = empty_lines riding.fresh n LINES in
    let one = sum_by-cons (port_worth n) (port_start riding carrying) (replicate cores (port_start riding carrying)) in
    let more : suc cores * empty_worth ≡ empty_worth + cores * empty_worth = omega arith in
    omega arith

cost_start : (limit n : ℕ) (ids : List ℕ) → sum_by (core_cost n) (map (λ id. buffered_start id limit) ids) ≡ 0
cost_start limit n [] = refl
cost_start limit n (id ∷ ids) =
    let rest = cost_start limit n ids in
    let one : sum_by (core_cost n) (map (λ (x : ℕ). buffered_start x limit) (id ∷ ids)) ≡ 0 + sum_by (core_cost n)
    (map (λ (x : ℕ). buffered_start x limit) ids) =
    sum_by-cons (core_cost n) (buffered_start id limit) (map (λ (x : ℕ). buffered_start x limit) ids) in
    omega arith

tso_capacity_start : (limit n : ℕ) (ids : List ℕ) →
    sum_by (tso_capacity n) (map (λ id. buffered_start id limit) ids)
    ≡ (2 * n + 5) * (length ids * limit) + length ids * empty_worth
tso_capacity_start limit n [] = omega arith
tso_capacity_start limit n (id ∷ ids) =
    let first : tso_capacity n (buffered_start id limit) ≡ (2 * n + 5) * limit + empty_worth =
    ap (λ (x : ℕ). (2 * n + 5) * x + empty_worth) (start_law id limit).1 in
    let rest = tso_capacity_start limit n ids in
    let one = sum_by-cons (tso_capacity n) (buffered_start id limit) (map (λ (x : ℕ). buffered_start x limit) ids) in
    let more = one_more (2 * n + 5) limit (length ids) in
    omega arith

pub tso_few_left : {R K : Type 0} (riding : Riding R) (carrying : Carrying K) (image : Contents) (params : Params) →
    tso_left (tso_state_start riding carrying image params.cores params.limit) ≤ tso_most_steps params
tso_few_left {R} {K} riding carrying image params =
    let s : TsoState R K = tso_state_start riding carrying image params.cores params.limit in
    let p : ℕ = params.cores in
    let many : length s.cores ≡ p = length-map-range_with_len (λ (id : ℕ). buffered_start id params.limit) 0 p in
    let ids : length (range_with_len 0 p) ≡ p = length-range_with_len 0 p in
    let all : sum_by (tso_capacity (length s.cores)) s.cores ≡ tso_most_steps params + p * empty_worth =
    ap (λ (n : ℕ). sum_by (tso_capacity n) s.cores) many
    ∙ tso_capacity_start params.limit p (range_with_len 0 p)
    ∙ ap (λ (n : ℕ). (2 * p + 5) * (n * params.limit) + n * empty_worth) ids in
    let costs : sum_by (core_cost (length s.cores)) s.cores ≡ 0 =
    ap (λ (n : ℕ). sum_by (core_cost n) s.cores) many ∙ cost_start params.limit p (range_with_len 0 p) in
    let owes = owed_start riding carrying p in
    let worth : sum_by (port_worth (length s.cores)) s.memory.ports ≡ p * empty_worth =
    worth_start riding carrying (length s.cores) p in
    omega (arith, all, costs, owes, worth)
