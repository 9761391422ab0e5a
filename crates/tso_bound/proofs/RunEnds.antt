-- A run ends, and the instructions that executed in it have paid for its steps. What a run has earned rises with each
-- step, and at the end no message and no access is pending, so nothing is owed: what is left over of 2 P + 5 steps an
-- instruction was never made.
use Rattle.std.proofs.Common.{◌≡◌, ◌∙◌, ap, refl, sym, ℕ, ◌+◌, ◌*◌, ◌<◌, ◌≤◌, ◌^◌, true, List, [], ◌∷◌}
use Rattle.std.proofs.Common.{length, zero}
use Rattle.std.proofs.Common.{suc, arith, inl, inr, ◌⊎◌}
use Rattle.std.specs.Prelude.{map, replicate}
use Rattle.std.specs.List.{sum_by, range_with_len}
use Rattle.std.proofs.Math.Nat.{mul-add}
use Rattle.std.proofs.lemmas.Bool.{cases_lt}
use Rattle.std.proofs.lemmas.List.{get_or_past}
use Rattle.std.proofs.lemmas.List.FromFn.{length-range_with_len}
use Rattle.std.proofs.lemmas.List.Sums.{sum_by-cons}
use Rattle.access_times.specs.Riding.{Riding, Carrying, none_riding, none_carrying}
use Rattle.image_mem.specs.Contents.{Contents}
use Rattle.rtr_types.specs.declared.params.Params.{Params}
use Rattle.rtr_types.specs.Parameters.{Fits}
use Rattle.rv_core.proofs.LawLemmas.{start_law}
use Rattle.msi_cache.specs.Lines.{empty_line}
use Rattle.rtr_types.specs.declared.TheConstants.{LINES}
use Rattle.msi_memory.specs.declared.port.Port.{Port}
use Rattle.msi_memory.specs.Memories.{no_port, port_at, port_start}
pub use Rattle.machine_bound.proofs.RunEnds.{InRange}
use Rattle.machine_bound.proofs.RunEnds.{few_steps, owed_start}
use Rattle.tso_state.specs.States.{PlainState, BufferedCore, all_done, buffered_start}
use Rattle.tso_state.specs.Runs.{plain_moves, plain_step, executed, opening_state, run, IsRunEnd}
use Rattle.tso_invariant.specs.Holds.{TsoHolds}
use Rattle.tso_invariant.proofs.StartInvariant.{chosen_enabled, each_after}
pub use Rattle.tso_invariant.proofs.StartInvariant.{holds_run, run_cores}
use Rattle.tso_invariant.proofs.DoneMachine.{ended_still}
use Rattle.tso_invariant.proofs.Stuck.{some_move}
use Rattle.tso_bound.specs.Bound.{capacity, core_cost, empty_worth, left, lines_worth, memory_worth, paid, port_worth}
use Rattle.tso_bound.specs.Bound.{total_earned, total_owed}
use Rattle.tso_bound.specs.Ends.{most_steps, end_of}
use Rattle.tso_bound.proofs.Capacity.{capacity_kept, total_earned_le}
use Rattle.machine_bound.proofs.Firsts.{FailsBefore, left_ends}
pub use Rattle.machine_bound.proofs.Firsts.{one_first}
use Rattle.machine_bound.proofs.PaidSteps.{paid_until}
use Rattle.tso_bound.proofs.Ports.{still_port}
use Rattle.tso_bound.proofs.StepPayments.{earns}
use Rattle.tso_bound.proofs.Sums.{sum_at_most}

-- ---- the sums at the start and at the end

module _ {R : Type 0} where
  empty_lines : (fresh : R) (cores k : ℕ) → lines_worth true cores (replicate k (empty_line fresh)) ≡ 3 * k
  empty_lines fresh cores zero = refl
  empty_lines fresh cores (suc k) =
      let rest = empty_lines fresh cores k in
      let one : lines_worth true cores (replicate (suc k) (empty_line fresh)) ≡ 3 + lines_worth true cores
      (replicate k (empty_line fresh)) =
      sum_by-cons _ (empty_line fresh) (replicate k (empty_line fresh)) in
      let three : 3 * suc k ≡ 3 + 3 * k = omega arith in
      omega arith

module _ {R K : Type 0} where
  -- each cache is empty at the start
  worth_start : (riding : Riding R) (carrying : Carrying K) (n cores : ℕ) →
      sum_by (port_worth n) (replicate cores (port_start riding carrying)) ≡ cores * empty_worth
  worth_start riding carrying n zero = refl
  worth_start riding carrying n (suc cores) =
      let rest = worth_start riding carrying n cores in
      let first : port_worth n (port_start riding carrying) ≡ empty_worth = empty_lines riding.fresh n LINES in
      let one = sum_by-cons (port_worth n) (port_start riding carrying)
      (replicate cores (port_start riding carrying)) in
      let more : suc cores * empty_worth ≡ empty_worth + cores * empty_worth = omega arith in
      omega arith

paid_start : (limit n : ℕ) (ids : List ℕ) → sum_by (paid n) (map (λ id. buffered_start id limit) ids) ≡ 0
paid_start limit n [] = refl
paid_start limit n (id ∷ ids) =
    let first : paid n (buffered_start id limit) ≡ 0 = ap (λ (x : ℕ). (2 * n + 5) * x) (start_law id limit).2
    ∙ omega arith in
    let rest = paid_start limit n ids in
    let one = sum_by-cons (paid n) (buffered_start id limit) (map (λ (x : ℕ). buffered_start x limit) ids) in
    omega arith

cost_start : (limit n : ℕ) (ids : List ℕ) → sum_by (core_cost n) (map (λ id. buffered_start id limit) ids) ≡ 0
cost_start limit n [] = refl
cost_start limit n (id ∷ ids) =
    let rest = cost_start limit n ids in
    let one : sum_by (core_cost n) (map (λ (x : ℕ). buffered_start x limit) (id ∷ ids)) ≡ 0 + sum_by (core_cost n)
    (map (λ (x : ℕ). buffered_start x limit) ids) =
    sum_by-cons (core_cost n) (buffered_start id limit) (map (λ (x : ℕ). buffered_start x limit) ids) in
    omega arith

capacity_start : (limit n : ℕ) (ids : List ℕ) →
    sum_by (capacity n) (map (λ id. buffered_start id limit) ids) ≡ (2 * n + 5) * (length ids * limit) + length
    ids * empty_worth
capacity_start limit n [] = omega arith
capacity_start limit n (id ∷ ids) =
    let first : capacity n (buffered_start id limit) ≡ (2 * n + 5) * limit + empty_worth =
    ap (λ (x : ℕ). (2 * n + 5) * x + empty_worth) (start_law id limit).1 in
    let rest = capacity_start limit n ids in
    let one = sum_by-cons (capacity n) (buffered_start id limit) (map (λ (x : ℕ). buffered_start x limit) ids) in
    let more = one_more (2 * n + 5) limit (length ids) in
    omega arith
  where
    one_more : (x y k : ℕ) → x * y + x * (k * y) ≡ x * (suc k * y)
    one_more x y k = grind arith

-- what has been paid for is by the instructions that executed
paid_all : (n : ℕ) (cores : List BufferedCore) →
    sum_by (paid n) cores ≡ (2 * n + 5) * sum_by (λ (t : BufferedCore). t.core.count) cores
paid_all n [] = omega arith
paid_all n (t ∷ cores) =
    let rest = paid_all n cores in
    let one = sum_by-cons (paid n) t cores in
    let two = sum_by-cons (λ (x : BufferedCore). x.core.count) t cores in
    let more : (2 * n + 5) * (t.core.count + sum_by (λ (x : BufferedCore). x.core.count) cores)
    ≡ (2 * n + 5) * t.core.count + (2 * n + 5) * sum_by (λ (x : BufferedCore). x.core.count) cores =
    mul-add (2 * n + 5) t.core.count (sum_by (λ (x : BufferedCore). x.core.count) cores) in
    rw (one, two, rest) (sym more)

-- ---- along a run

pub run_holds : (image : Contents) (params : Params) (choices : ℕ → ℕ) (t : ℕ) → InRange params →
    TsoHolds none_riding none_carrying (run image params choices t)
run_holds image params choices t fits = holds_run image params choices t fits.cores fits.limit

-- the steps so far are paid for
steps_paid : (image : Contents) (params : Params) (choices : ℕ → ℕ) (t : ℕ) → InRange params →
    FailsBefore (λ u. all_done (run image params choices u)) t →
    t + (total_owed (run image params choices t) + params.cores * empty_worth)
    ≤ total_earned (run image params choices t)
steps_paid image params choices t fits more =
    let n : ℕ = length (opening_state image params).cores in
    let none = owed_start none_riding none_carrying params.cores in
    let worth = worth_start none_riding none_carrying n params.cores in
    let cost = cost_start params.limit n (range_with_len 0 params.cores) in
    let nothing = paid_start params.limit n (range_with_len 0 params.cores) in
    paid_until plain_moves plain_step all_done (λ (s : PlainState). TsoHolds none_riding none_carrying s)
    (λ (s : PlainState). total_owed s + params.cores * empty_worth) total_earned
    (λ s h going. some_move none_riding none_carrying s h going)
    (λ s choice m is h. (let pays = earns none_riding none_carrying s m tt (chosen_enabled s choice m is) h in
    omega arith)) (opening_state image params) choices (λ u. run_holds image params choices u fits) (omega arith) t more

-- no step changes the number of cores, nor what all instructions can pay for
run_capacity : (image : Contents) (params : Params) (choices : ℕ → ℕ) (t : ℕ) →
    sum_by (capacity params.cores) (run image params choices t).cores ≡ most_steps params + params.cores * empty_worth
run_capacity image params choices t =
    let many : length (range_with_len 0 params.cores) ≡ params.cores = length-range_with_len 0 params.cores in
    each_after plain_moves plain_step
    (λ (s : PlainState). sum_by (capacity params.cores) s.cores ≡ most_steps params + params.cores * empty_worth)
    (λ s choice m is e. capacity_kept none_riding none_carrying s m tt params.cores ∙ e)
    (opening_state image params) choices t
    (capacity_start params.limit params.cores (range_with_len 0 params.cores)
    ∙ ap (λ (n : ℕ). (2 * params.cores + 5) * (n * params.limit) + n * empty_worth) many)

-- what all instructions can pay for, of the state's own number of cores
capacity_is : (image : Contents) (params : Params) (choices : ℕ → ℕ) (t : ℕ) →
    sum_by (capacity (length (run image params choices t).cores))
    (run image params choices t).cores ≡ most_steps params + params.cores * empty_worth
capacity_is image params choices t =
    ap (λ (cores : ℕ). sum_by (capacity cores) (run image params choices t).cores) (run_cores image params choices t)
    ∙ run_capacity image params choices t

-- the steps so far and those that are left are at most what all instructions can pay for
pub left_within : (image : Contents) (params : Params) (choices : ℕ → ℕ) (t : ℕ) → InRange params →
    FailsBefore (λ u. all_done (run image params choices u)) t →
    t + left (run image params choices t) ≤ most_steps params
left_within image params choices t fits more =
    let s : PlainState = run image params choices t in
    let so_far : t + (total_owed s + params.cores * empty_worth) ≤ total_earned s =
    steps_paid image params choices t fits more in
    let at_most : total_earned s ≤ sum_by (capacity (length s.cores)) s.cores + total_owed s =
    total_earned_le none_riding none_carrying s (run_holds image params choices t fits) in
    let all : sum_by (capacity (length s.cores)) s.cores ≡ most_steps params + params.cores * empty_worth =
    capacity_is image params choices t in
    omega arith

-- where each core has ended the caches wait for nothing
ended_worth : (s : PlainState) → TsoHolds none_riding none_carrying s → all_done s ≡ true →
    memory_worth (length s.cores) s.memory ≤ length s.cores * empty_worth
ended_worth s h done =
    let n : ℕ = length s.cores in
    let le = sum_at_most (port_worth {R = Unit {0}} {K = Unit {0}} n) empty_worth s.memory.ports (no_port none_carrying)
    (λ c. at c (cases_lt c (length s.memory.ports))) in
    let e : empty_worth * length s.memory.ports ≡ n * empty_worth = ap (λ (k : ℕ). empty_worth * k) h.ports_there
    ∙ omega arith in
    omega arith
  where
    at : (c : ℕ) → (c < length s.memory.ports) ⊎ (length s.memory.ports ≤ c) →
        port_worth (length s.cores) (port_at none_carrying s.memory.ports c) ≤ empty_worth
    at c (inl within) =
        still_port none_riding (length s.cores) (port_at none_carrying s.memory.ports c)
        (h.memory.ports c within).all_lines
        (ended_still none_riding none_carrying s c h done (let e = h.ports_there in omega arith))
    at c (inr past) =
        let none : port_worth (length s.cores) (port_at none_carrying s.memory.ports c) ≡ 0 =
        ap (λ (p : Port (Unit {0}) (Unit {0})). port_worth (length s.cores) p)
        (get_or_past s.memory.ports c (no_port none_carrying) past) in
        omega arith

-- ---- the end

pub run_ends : (image : Contents) (params : Params) (choices : ℕ → ℕ) → InRange params →
    IsRunEnd image params choices (end_of image params choices)
run_ends image params choices fits =
    left_ends run all_done most_steps image params choices _ (λ t more. left_within image params choices t fits more)

pub end_done : (image : Contents) (params : Params) (choices : ℕ → ℕ) → InRange params →
    all_done (run image params choices (end_of image params choices)) ≡ true
end_done image params choices fits = (run_ends image params choices fits).done

pub end_in_time : (image : Contents) (params : Params) (choices : ℕ → ℕ) → InRange params →
    end_of image params choices ≤ (2 * params.cores + 5) * executed
    (run image params choices (end_of image params choices))
end_in_time image params choices fits =
    let e : ℕ = end_of image params choices in
    let s : PlainState = run image params choices e in
    let so_far : e + (total_owed s + params.cores * empty_worth) ≤ total_earned s =
    steps_paid image params choices e fits (run_ends image params choices fits).first in
    let worth : memory_worth (length s.cores) s.memory ≤ length s.cores * empty_worth =
    ended_worth s (run_holds image params choices e fits) (end_done image params choices fits) in
    let many : length s.cores * empty_worth ≡ params.cores * empty_worth = ap (λ (n : ℕ). n * empty_worth)
    (run_cores image params choices e) in
    let all : sum_by (paid (length s.cores)) s.cores ≡ (2 * params.cores + 5) * executed s =
    paid_all (length s.cores) s.cores ∙ ap (λ (n : ℕ). (2 * n + 5) * executed s) (run_cores image params choices e) in
    omega arith

pub most_steps_few : (params : Params) → Fits params → most_steps params < 2 ^ 32
most_steps_few params fits = few_steps 5 params fits (omega arith)
