-- What is exact along every run.
use Rattle.std.specs.Prelude.{◌≡◌, ℕ, suc, ◌<◌}
use Rattle.image_mem.specs.Contents.{Contents}
use Rattle.rtr_types.specs.Parameters.{Fits}
use Rattle.rtr_types.specs.declared.access.Access.{Access}
use Rattle.rtr_types.specs.declared.instr.Instr.{Instr}
use Rattle.rtr_types.specs.declared.params.Params.{Params}
use Rattle.schedule_pick.specs.Choices.{Choices, choice_at}
use Rattle.conflict_edge.specs.Times.{IsExactClock}
use Rattle.machine_bound.specs.Ends.{end_of}
use Rattle.msi_state.specs.Events.{Accesses}
use Rattle.msi_state.specs.Runs.{accesses, event_at}
use Rattle.online_reduce.specs.Exact.{AreExactFor, last_of}
use Rattle.online_reduce.specs.Reduced.{Reduced, clock_of, count_of}
use Rattle.run_outcome.specs.Retirement.{RetiresAt, retired_count}
use Rattle.run_records.specs.StandingAt.{UntilEnd, reduction_at, times_found}

-- what the reduction r has after t choices: of each core the count of its retired instructions, and the exact clock of
-- the last one
pub record ExactClocks (image : Contents) (params : Params) (schedule : Choices) (t : ℕ) (r : Reduced) : Type 0 where
  pub counts : (core : ℕ) → core < params.cores
      → count_of r core ≡ retired_count image params (choice_at schedule) t core
  pub clocks : (core : ℕ) → core < params.cores
      → IsExactClock (accesses image params (choice_at schedule) t) (last_of r core) (clock_of r core)

abbrev pub ExactClocksLaw : Type 0
ExactClocksLaw =
    UntilEnd (λ image params schedule t. ExactClocks image params schedule t (reduction_at image params schedule t))

-- The clock that is noted when an instruction retires, with an access or without one, is exact.
abbrev pub RetiredClockLaw : Type 0
RetiredClockLaw =
    (image : Contents) (params : Params) (schedule : Choices) (t : ℕ) (at : Instr) → Fits params
    → t < end_of image params (choice_at schedule) → RetiresAt image params (choice_at schedule) t at
    → IsExactClock (accesses image params (choice_at schedule) (suc t)) at
    (clock_of (reduction_at image params schedule (suc t)) at.core)

-- The times that an access finds are exact for it.
abbrev pub FoundTimesLaw : Type 0
FoundTimesLaw =
    (image : Contents) (params : Params) (schedule : Choices) (t : ℕ) (a : Access) → Fits params
    → t < end_of image params (choice_at schedule) → event_at image params (choice_at schedule) t ≡ Accesses a
    → AreExactFor (accesses image params (choice_at schedule) t) a (times_found image params schedule t)
