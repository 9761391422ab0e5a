-- A run ends, and the instructions that retired in it have paid for its steps.
use Rattle.std.proofs.Common.{◌≡◌, ◌∙◌, ap, refl, sym, ℕ, ◌+◌, ◌*◌, ◌<◌, ◌≤◌, ◌^◌, true, List, [], ◌∷◌}
use Rattle.std.proofs.Common.{length, zero}
use Rattle.std.proofs.Common.{suc, arith}
use Rattle.std.specs.Prelude.{map, replicate}
use Rattle.std.specs.List.{sum_by, list_all, range_with_len, zip}
use Rattle.std.proofs.Math.Nat.{mul-add}
use Rattle.std.proofs.lemmas.Bool.{and_parts}
use Rattle.std.proofs.lemmas.Nat.{mul-le}
use Rattle.std.proofs.lemmas.List.FromFn.{length-range_with_len}
use Rattle.std.proofs.lemmas.List.Sums.{sum_by-cons}
use Rattle.access_times.specs.Riding.{Riding, Carrying, none_riding, none_carrying}
use Rattle.image_mem.specs.Contents.{Contents}
use Rattle.rtr_types.specs.declared.TheConstants.{CORES_MAX}
use Rattle.rtr_types.specs.declared.params.TheConstants.{INSTRUCTIONS_MAX}
use Rattle.rtr_types.specs.declared.params.Params.{Params}
use Rattle.rtr_types.specs.Parameters.{Fits}
use Rattle.rv_core.specs.declared.core_state.Core.{Core}
use Rattle.rv_core.specs.States.{starting}
use Rattle.rv_core.specs.Steps.{need, is_done}
use Rattle.rv_core.proofs.LawLemmas.{start_law}
use Rattle.msi_memory.specs.declared.port.Port.{Port}
use Rattle.msi_memory.specs.Memories.{port_start}
use Rattle.msi_state.specs.States.{PlainState, all_done}
use Rattle.msi_state.specs.Runs.{plain_moves, plain_step, opening_state, run, IsRunEnd}
use Rattle.machine_bound.specs.Bound.{owed, earned, capacity, total_owed, total_earned, total_retired, left}
use Rattle.machine_invariant.specs.Holds.{MachineHolds}
use Rattle.machine_invariant.proofs.StartInvariant.{chosen_enabled, holds_run}
use Rattle.machine_invariant.proofs.ChoiceStates.{cores_stay, each_after}
use Rattle.machine_invariant.proofs.StepFrame.{step_cores}
use Rattle.machine_invariant.proofs.Stuck.{some_move}
use Rattle.machine_bound.specs.Ends.{most_steps, end_of}
use Rattle.machine_bound.proofs.PortEarns.{done_base}
use Rattle.machine_bound.proofs.Payments.{earns}
use Rattle.machine_bound.proofs.Capacity.{capacity_kept, total_earned_le}
use Rattle.machine_bound.proofs.Firsts.{FailsBefore, left_ends}
use Rattle.machine_bound.proofs.PaidSteps.{paid_until}

-- ---- the sums at the start and at the end

module _ {R K : Type 0} where
  -- nothing is owed at the start
  pub owed_start : (riding : Riding R) (carrying : Carrying K) (cores : ℕ) →
      sum_by owed (replicate cores (port_start riding carrying)) ≡ 0
  owed_start riding carrying zero = refl
  owed_start riding carrying (suc cores) =
      let rest = owed_start riding carrying cores in
      sum_by-cons owed (port_start riding carrying) (replicate cores (port_start riding carrying)) ∙ (rw rest refl)

  -- a core whose program is done has paid with the instructions that retired
  pub done_earned : (image : Contents) (riding : Riding R) (n : ℕ) (cores : List Core) (ports : List (Port R K)) →
      length ports ≡ length cores →
      list_all (λ (core : Core). is_done (need image core)) cores ≡ true →
      sum_by (earned image riding n) (zip cores ports) ≡ (2 * n + 4) * sum_by (λ (core : Core). core.count) cores
  done_earned image riding n [] ports long is = omega arith
  done_earned image riding n (core ∷ cores) [] long is = absurd (omega arith)
  done_earned image riding n (core ∷ cores) (p ∷ ports) long is =
      let here = and_parts (is_done (need image core)) (list_all (λ (x : Core). is_done (need image x)) cores) is in
      let base = done_base (need image core) riding n p here.0 in
      let first : earned image riding n (core, p) ≡ (2 * n + 4) * core.count = omega arith in
      let rest = done_earned image riding n cores ports (omega arith) here.1 in
      rw (
        sum_by-cons (earned image riding n) (core, p) (zip cores ports),
        sum_by-cons (λ (x : Core). x.count) core
            cores,
        first,
        rest,
      )
      (sym (mul-add (2 * n + 4) core.count (sum_by (λ (x : Core). x.count) cores)))

capacity_start : (limit cores : ℕ) (ids : List ℕ) →
    sum_by (capacity cores) (map (λ id. starting id limit) ids) ≡ (2 * cores + 4) * (length ids * limit)
capacity_start limit cores [] = omega arith
capacity_start limit cores (id ∷ ids) =
    let first : capacity cores (starting id limit) ≡ (2 * cores + 4) * limit =
    ap (λ (x : ℕ). (2 * cores + 4) * x) (start_law id limit).1 in
    let rest = capacity_start limit cores ids in
    sum_by-cons (capacity cores) (starting id limit) (map (λ (x : ℕ). starting x limit) ids)
    ∙ (rw (first, rest) (one_more (2 * cores + 4) limit (length ids)))
  where
    one_more : (x y n : ℕ) → x * y + x * (n * y) ≡ x * (suc n * y)
    one_more x y n = grind arith

-- ---- along a run

-- the parameters for which each state of a run has the invariant
pub record InRange (params : Params) : Type 0 where
  pub cores : params.cores ≤ CORES_MAX
  pub limit : params.limit < 2 ^ 32

pub run_holds : (image : Contents) (params : Params) (choices : ℕ → ℕ) (t : ℕ) → InRange params →
    MachineHolds none_riding none_carrying (run image params choices t)
run_holds image params choices t fits = holds_run image params choices t fits.cores fits.limit

-- the steps so far are paid for
steps_paid : (image : Contents) (params : Params) (choices : ℕ → ℕ) (t : ℕ) → InRange params →
    FailsBefore (λ u. all_done (run image params choices u)) t →
    t + total_owed (run image params choices t) ≤ total_earned none_riding (run image params choices t)
steps_paid image params choices t fits more =
    let none : total_owed (opening_state image params) ≡ 0 = owed_start none_riding none_carrying params.cores in
    paid_until plain_moves plain_step all_done (λ (s : PlainState). MachineHolds none_riding none_carrying s) total_owed
    (total_earned none_riding) (λ s h going. some_move none_riding none_carrying s h going)
    (λ s choice m is h. earns none_riding none_carrying s m tt (chosen_enabled s choice m is) h)
    (opening_state image params) choices (λ u. run_holds image params choices u fits) (omega arith) t more

-- no step changes the number of cores, nor what all instructions can pay for
pub run_cores : (image : Contents) (params : Params) (choices : ℕ → ℕ) (t : ℕ) →
    length (run image params choices t).cores ≡ params.cores
run_cores image params =
    cores_stay plain_moves plain_step (λ s m. step_cores none_riding none_carrying tt s m)
    (λ id. starting id params.limit) image params.cores

run_capacity : (image : Contents) (params : Params) (choices : ℕ → ℕ) (t : ℕ) →
    sum_by (capacity params.cores) (run image params choices t).cores ≡ most_steps params
run_capacity image params choices t =
    let many : length (range_with_len 0 params.cores) ≡ params.cores = length-range_with_len 0 params.cores in
    each_after plain_moves plain_step
    (λ (s : PlainState). sum_by (capacity params.cores) s.cores ≡ most_steps params)
    (λ s choice m is e. capacity_kept none_riding none_carrying s m tt params.cores ∙ e)
    (opening_state image params) choices t
    (capacity_start params.limit params.cores (range_with_len 0 params.cores)
    ∙ ap (λ (n : ℕ). (2 * params.cores + 4) * (n * params.limit)) many)

-- what all instructions can pay for, of the state's own number of cores
capacity_is : (image : Contents) (params : Params) (choices : ℕ → ℕ) (t : ℕ) →
    sum_by (capacity (length (run image params choices t).cores)) (run image params choices t).cores ≡ most_steps params
capacity_is image params choices t =
    ap (λ (cores : ℕ). sum_by (capacity cores) (run image params choices t).cores) (run_cores image params choices t)
    ∙ run_capacity image params choices t

-- the steps so far and those that are left are at most what all instructions can pay for
pub left_within : (image : Contents) (params : Params) (choices : ℕ → ℕ) (t : ℕ) → InRange params →
    FailsBefore (λ u. all_done (run image params choices u)) t →
    t + left none_riding (run image params choices t) ≤ most_steps params
left_within image params choices t fits more =
    let s : PlainState = run image params choices t in
    let paid : t + total_owed s ≤ total_earned none_riding s = steps_paid image params choices t fits more in
    let earned_at_most : total_earned none_riding s ≤ sum_by (capacity (length s.cores)) s.cores =
    total_earned_le none_riding none_carrying s (run_holds image params choices t fits) in
    let all : sum_by (capacity (length s.cores)) s.cores ≡ most_steps params = capacity_is image params choices t in
    omega arith

-- a state in which each core's program is done has earned what its instructions pay for
all_earned : (s : PlainState) → length s.memory.ports ≡ length s.cores → all_done s ≡ true →
    total_earned none_riding s ≡ (2 * length s.cores + 4) * total_retired s
all_earned s long done = done_earned s.image none_riding (length s.cores) s.cores s.memory.ports long done

-- ---- the end

pub run_ends : (image : Contents) (params : Params) (choices : ℕ → ℕ) → InRange params →
    IsRunEnd image params choices (end_of image params choices)
run_ends image params choices fits =
    left_ends run all_done most_steps image params choices _ (λ t more. left_within image params choices t fits more)

pub end_in_time : (image : Contents) (params : Params) (choices : ℕ → ℕ) → InRange params →
    end_of image params choices ≤ (2 * params.cores + 4) * total_retired (run image params choices
    (end_of image params choices))
end_in_time image params choices fits =
    let e : ℕ = end_of image params choices in
    let s : PlainState = run image params choices e in
    let paid : e + total_owed s ≤ total_earned none_riding s =
    steps_paid image params choices e fits (run_ends image params choices fits).first in
    let all : total_earned none_riding s ≡ (2 * params.cores + 4) * total_retired s =
    all_earned s (run_holds image params choices e fits).ports_there (run_ends image params choices fits).done
    ∙ ap (λ (cores : ℕ). (2 * cores + 4) * total_retired s) (run_cores image params choices e) in
    omega arith

-- so many steps for each instruction fit a word
pub few_steps : (more : ℕ) (params : Params) → Fits params → more ≤ 5 →
    (2 * params.cores + more) * (params.cores * params.limit) < 2 ^ 32
few_steps more params fits le =
    let few = fits.cores in
    let steps : (2 * params.cores + more) * (params.cores * params.limit) ≤ (2 * CORES_MAX + 5) * INSTRUCTIONS_MAX =
    mul-le (2 * params.cores + more) (params.cores * params.limit) (2 * CORES_MAX + 5) INSTRUCTIONS_MAX (omega arith)
    fits.instructions in
    omega arith

pub most_steps_few : (params : Params) → Fits params → most_steps params < 2 ^ 32
most_steps_few params fits = few_steps 4 params fits (omega arith)
