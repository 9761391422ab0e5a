-- What is exact along every run.
use Rattle.std.specs.Prelude.{◌≡◌, ℕ, ◌<◌, ◌≤◌, ◌^◌, List, Some, length}
use Rattle.access_times.specs.Riding.{none_carrying}
use Rattle.access_times.specs.Times.{times_riding}
use Rattle.image_mem.specs.Contents.{Contents}
use Rattle.rtr_types.specs.declared.TheConstants.{CORES_MAX}
use Rattle.rtr_types.specs.declared.access.Access.{Access}
use Rattle.rtr_types.specs.declared.instr.Edge.{Edge}
use Rattle.rtr_types.specs.declared.params.Params.{Params}
use Rattle.conflict_edge.specs.Least.{IsLeast}
use Rattle.msi_state.specs.Events.{Accesses}
use Rattle.online_reduce.specs.Exact.{AreExactFor, IsReduction}
use Rattle.online_reduce.specs.Reduced.{Reduced, count_of}
use Rattle.tso_times.specs.Timed.{ordering_of}
use Rattle.tso_state.specs.Runs.{accesses, all_told, event_at}
use Rattle.tso_told.specs.Played.{told_of}
use Rattle.tso_state.specs.declared.moves.Move.{Move}
use Rattle.tso_state.specs.Steps.{told}
use Rattle.tso_records.specs.Standings.{AreNextOf, found_in, next_move, standing_at, times_found}

-- Whatever access is ordered at a choice of a run, the times that it finds are exact for it among the accesses that
-- were ordered before.
abbrev pub FoundTimesLaw : Type 0
FoundTimesLaw =
    (image : Contents) (params : Params) (choices : ℕ → ℕ) (t : ℕ) (a : Access) → params.cores ≤ CORES_MAX
    → params.limit < 2 ^ 32 → ordering_of (event_at image params choices t) ≡ Accesses a
    → AreExactFor (accesses image params choices t) a (times_found image params choices t)

-- After each choice of a run the edges found are the least set of the accesses that were ordered so far.
abbrev pub LeastEdgesLaw : Type 0
LeastEdgesLaw =
    (image : Contents) (params : Params) (choices : ℕ → ℕ) (t : ℕ) → params.cores ≤ CORES_MAX → params.limit < 2 ^ 32
    → IsLeast (accesses image params choices t) (standing_at image params choices t).edges

-- the reduction has these edges by pair, and of each core the count of what was told, with its exact clock
pub record IsReductionOf (image : Contents) (params : Params) (choices : ℕ → ℕ) (t : ℕ) (r : Reduced)
    (edges : List Edge)
    : Type 0 where
  pub cores : r.cores ≡ params.cores
  pub counts : (c : ℕ) → c < params.cores → count_of r c ≡ length (told_of c (all_told image params choices t))
  pub reduction : IsReduction (accesses image params choices t) r edges

-- After each choice of a run the reduction stands for what was told and has these edges.
abbrev pub ReductionLaw : Type 0
ReductionLaw =
    (image : Contents) (params : Params) (choices : ℕ → ℕ) (t : ℕ) → params.cores ≤ CORES_MAX → params.limit < 2 ^ 32
    → let w = standing_at image params choices t in IsReductionOf image params choices t w.reduction w.edges

-- Whatever move a choice of a run takes, what is told in it is, one instruction after the other, what the reduction
-- awaits.
abbrev pub NextToldLaw : Type 0
NextToldLaw =
    (image : Contents) (params : Params) (choices : ℕ → ℕ) (t : ℕ) (m : Move) → params.cores ≤ CORES_MAX
    → params.limit < 2 ^ 32 → let w = standing_at image params choices t in
    next_move w (choices t) ≡ Some m
    → AreNextOf w.reduction (found_in w.state m) (told times_riding none_carrying w.state m)
