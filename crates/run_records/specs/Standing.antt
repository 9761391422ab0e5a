-- Where a run that is recorded stands.
use Rattle.std.specs.Prelude.{◌≡◌, ℕ, ◌<◌, List, [], reverse}
use Rattle.access_times.specs.declared.times.Times.{Times}
use Rattle.image_mem.specs.Contents.{Contents}
use Rattle.rtr_types.specs.declared.access.Access.{Access}
use Rattle.rtr_types.specs.declared.instr.Edge.{Edge}
use Rattle.rtr_types.specs.declared.params.Params.{Params}
use Rattle.schedule_pick.specs.Choices.{Choices, choice_at}
use Rattle.machine_plain.specs.Plain.{plain}
use Rattle.msi_state.specs.Runs.{accesses}
use Rattle.msi_state.specs.States.{State}
use Rattle.machine_times.specs.ExactTimes.{HaveExactClocks}
use Rattle.machine_times.specs.ExactTimes as times
use Rattle.machine_times.specs.Retirements.{MachineStandsFor, Retirement, retired_by}
use Rattle.machine_times.specs.TimedSteps.{times_parts}
use Rattle.know_history.specs.Knowledge.{known_carrying}
use Rattle.know_history.specs.declared.known.Known.{Known}
use Rattle.know_history.specs.Notes.{Notes}
use Rattle.edge_regulate.specs.Seats.{Follows}
use Rattle.machine_known.specs.Events.{happening_at}
use Rattle.machine_known.specs.Histories.{KnowsAt}
use Rattle.online_reduce.specs.Exact.{IsReduction}
use Rattle.online_reduce.specs.Reduced.{Reduced, count_of}
use Rattle.run_outcome.specs.Outcomes.{RunsAt}
use Rattle.run_records.specs.Clerks.{Noted}

-- the reduction stands for these retirements, whose accesses are these: the noted clocks are exact, the counts are the
-- numbers of retirements, and the edges are the covering pairs
pub record Reduces (list : List Retirement) (all : List Access) (r : Reduced) (edges : List Edge) : Type 0 where
  pub accesses_are : times.retired_accesses list ≡ all
  pub exact : HaveExactClocks all list
  pub counts : (core : ℕ) → core < r.cores → count_of r core ≡ retired_by (reverse list) core
  pub reduction : IsReduction all r edges

-- the regulator was told all edges of the reduction, and its vectors are theirs by what is noted
pub record Regulates (notes : Notes) (c : Noted) : Type 0 where
  pub cores : c.regulation.regulation.cores ≡ c.reduction.state.cores
  pub all_told : c.untold ≡ []
  pub follows : Follows notes c.reduction.state.lists c.regulation

-- a machine in this state, a reduction that is this, what is noted of the retirements so far and the choices that are
-- left stand t choices into the run, which hasn't ended before
pub record NotesAt (image : Contents) (params : Params) (schedule : Choices) (t : ℕ) (s : State Times Known)
    (r : Reduced) (notes : Notes) (rest : Choices) : Type 0 where
  pub run : RunsAt image params schedule t (plain s) rest
  pub list : List Retirement
  pub edges : List Edge
  pub machine : MachineStandsFor times_parts known_carrying list s
  pub cores : r.cores ≡ params.cores
  pub reduces : Reduces list (accesses image params (choice_at schedule) t) r edges
  pub knows : KnowsAt (happening_at image params (choice_at schedule)) t s notes

-- a machine and a clerk stand there, and the regulation is that of the edges so far, by what is known at each
-- retirement, which nobody keeps
pub record RecordsAt (image : Contents) (params : Params) (schedule : Choices) (t : ℕ) (s : State Times Known)
    (clerk : Noted) (rest : Choices) : Type 0 where
  pub history : Notes
  pub notes : NotesAt image params schedule t s clerk.reduction.state history rest
  pub regulates : Regulates history clerk
