-- Rule: where a debugger stands: Placed, Stands
-- Where a debugger stands: a closed cut of an audited recording, with its state.
use Rattle.std.specs.Prelude.{◌≡◌, ℕ, List}
use Rattle.rtr_types.specs.declared.cut.Cut.{Cut}
use Rattle.rtr_types.specs.declared.pairs.Which.{Which}
use Rattle.rv_core.specs.declared.outcome.Outcome.{Outcome}
use Rattle.race_log.specs.declared.recording.Recording.{Recording}
use Rattle.race_log.specs.Validity.{Valid}
use Rattle.replay_core.specs.Answers.{UnderWay, cut_of}
use Rattle.replay_core.specs.Orders.{counts_in}
use Rattle.replay_core.specs.Plans.{Plan, plan_of}
use Rattle.replay_audit.specs.Audits.{Findings}
use Rattle.replay_audit.specs.Determinate.{IsDeterminate}
use Rattle.cut_replay.specs.ClosedCuts.{IsClosed}
use Rattle.cut_replay.specs.CutStates.{IsStateAt}
use Rattle.cut_moves.specs.Rounds.{rounds_of}

-- what a place shows: the recording and the log by which it's looked at, and the state
pub record Placed : Type 0 where
  pub recording : Recording
  pub which : Which
  pub state : Outcome

-- the two are places of one recording, by one log
pub record IsKept (old new : Placed) : Type 0 where
  pub recording : new.recording ≡ old.recording
  pub which : new.which ≡ old.which

abbrev pub plan_at : Placed → Plan
plan_at place = plan_of place.which place.recording

-- the cut: how many instructions of each core are done
abbrev pub cut_at : Placed → Cut
cut_at place = cut_of (plan_at place) (counts_in place.state)

-- a place is at a closed cut, and its state is the one that every replay order has that comes there
pub record Stands (place : Placed) : Type 0 where
  pub closed : IsClosed place.which place.recording (cut_at place)
  pub state : IsStateAt place.which place.recording (cut_at place) place.state

-- what a replay of this recording by this log shows stands at this cut
pub record IsReplayAt (which : Which) (r : Recording) (cut : Cut) (replay : UnderWay) : Type 0 where
  pub plan_is : replay.plan ≡ plan_of which r
  pub closed : IsClosed which r cut
  pub state : IsStateAt which r cut replay.state

-- what the parts of a place have to do with each other: the recording is determinate by the log, the timeline is the
-- one by rounds, the index is the audit's, and the cut is closed
pub record Fits (a : Findings) (timeline : List ℕ) (index : Findings) (cut : Cut) : Type 0 where
  pub valid : Valid a.recording
  pub determinate : IsDeterminate a.which a.recording
  pub timeline_is : timeline ≡ rounds_of a.which a.recording
  pub index_is : index ≡ a
  pub closed : IsClosed a.which a.recording cut
