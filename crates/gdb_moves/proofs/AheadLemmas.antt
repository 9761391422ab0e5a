-- What lies ahead, in either direction.
use Rattle.std.proofs.Common.{◌≡◌, ℕ, Result, sym, subst, arith}
use Rattle.std.specs.Prelude.{Bool, IfOk, IfSome, Option, Some, None}
use Rattle.std.proofs.lemmas.Result.{IfOk-weaker}
use Rattle.rtr_types.specs.declared.core_set.CoreSet.{CoreSet}
use Rattle.rtr_types.specs.declared.cut.Cut.{Cut}
use Rattle.rtr_types.specs.declared.pairs.Which.{Which}
use Rattle.rv_core.specs.declared.outcome.Outcome.{Outcome}
use Rattle.gdb_packets.specs.declared.replies.Stop as stops
use Rattle.race_log.specs.declared.recording.Recording.{Recording}
use Rattle.race_log.specs.Validity.{Valid}
use Rattle.replay_core.specs.Plans.{Plan}
use Rattle.replay_audit.specs.Audits.{IsInstrOf}
use Rattle.cut_replay.specs.ClosedCuts.{IsClosed, IsCutOf}
use Rattle.cut_moves.specs.Steps.{next_in}
use Rattle.cut_moves.proofs.Hulls.{in_whole}
use Rattle.debug_place.specs.Places.{IsKept, Placed, Stands, cut_at}
use Rattle.gdb_moves.specs.declared.direction.Direction.{Direction}
use Rattle.gdb_moves.specs.declared.direction.Direction.TheVariants.{Forward, Back}
use Rattle.gdb_moves.specs.Directions.{GoesTo, IsLimit, IsStepIn, LiesAhead}
use Rattle.gdb_moves.specs.Moves.{Follow, GoesWith, StepsFree, StepsInto, TakesTurn}
use Rattle.gdb_moves.specs.Stopping.{Stopping, stops_at}
use Rattle.gdb_moves.specs.Turns.{IsTurnIn, timeline_at}
use Rattle.gdb_moves.proofs.OnWays.{next_backward, next_forward}

-- a step comes to a closed cut, which lies ahead
pub step_closed : (direction : Direction) (which : Which) (r : Recording) (cut : Cut) (core : ℕ) (to : Cut) →
    IsStepIn direction which r cut core to → IsClosed which r to
step_closed Forward which r cut core to step = step.closed
step_closed Back which r cut core to step = step.closed

pub step_ahead : (direction : Direction) (which : Which) (r : Recording) (cut : Cut) (core : ℕ) (to : Cut) →
    IsStepIn direction which r cut core to → LiesAhead direction cut to
step_ahead Forward which r cut core to step = step.contains
step_ahead Back which r cut core to step = step.contained

-- of each cut the limit does
pub limit_ahead : (direction : Direction) (r : Recording) (limit cut : Cut) → IsLimit direction r limit →
    IsCutOf r cut → LiesAhead direction cut limit
limit_ahead Forward r limit cut whole is_cut = in_whole r limit cut whole is_cut
limit_ahead Back r limit cut none is_cut = λ core. let nothing = none core in omega arith

-- the core at whose instruction something stopped the way has a next one there
next_at : (way : Direction) (test : Plan → Outcome → ℕ → Bool) (old mid : Placed) (to : Cut) →
    Stands old → Valid old.recording → IsClosed old.which old.recording to → LiesAhead way (cut_at old) to →
    IsKept old mid → (stopped : Option ℕ) → GoesTo way test old to mid stopped →
    IfSome stopped (λ core. IsInstrOf mid.recording (next_in (cut_at mid) core))
next_at way test old mid to stands valid closed ahead kept None goes = tt
next_at Forward test old mid to stands valid closed ahead kept (Some core) goes =
    next_forward test old mid to core stands valid closed ahead kept.recording kept.which goes
next_at Back test old mid to stands valid closed ahead kept (Some core) goes =
    next_backward test old mid to core stands valid closed ahead kept.recording kept.which goes

-- so it has where a move in this direction was stopped
pub next_where : {E : Type 0} (result : Result (Option ℕ) E) (direction way : Direction)
    (test : Plan → Outcome → ℕ → Bool) (old mid : Placed) (to : Cut) → direction ≡ way →
    Stands old → Valid old.recording → IsClosed old.which old.recording to → LiesAhead direction (cut_at old) to →
    IsKept old mid → IfOk result (GoesTo way test old to mid) →
    IfOk result (λ stopped. IfSome stopped (λ core. IsInstrOf mid.recording (next_in (cut_at mid) core)))
next_where result direction way test old mid to is stands valid closed ahead kept goes =
    let lies = subst (λ (one : Direction). LiesAhead one (cut_at old) to) is ahead in
    IfOk-weaker result _ _ (next_at way test old mid to stands valid closed lies kept) goes

-- where nothing stopped it, it came to the cut
came : (direction : Direction) (test : Plan → Outcome → ℕ → Bool) (old new : Placed) (to : Cut) →
    GoesTo direction test old to new None → to ≡ cut_at new
came Forward test old new to goes = sym goes.1
came Back test old new to goes = sym goes.ends.1

pub free_step : (direction : Direction) (stopping : Stopping) (core : ℕ) (old new : Placed) (to : Cut) →
    IsKept old new → IsStepIn direction old.which old.recording (cut_at old) core to →
    GoesTo direction (stops_at stopping) old to new None → StepsFree direction stopping core old new
free_step direction stopping core old new to kept step goes =
    let there = came direction (stops_at stopping) old new to goes in
    record {
      kept = kept;
      step = subst (λ (k : Cut). IsStepIn direction old.which old.recording (cut_at old) core k) there step;
      free = subst (λ (k : Cut). GoesTo direction (stops_at stopping) old k new None) there goes;
    }

-- turns that nothing stopped, and then one that something did
pub stopped_turn : (direction : Direction) (stopping : Stopping) (cores : CoreSet) (lead turns core : ℕ)
    (old mid new : Placed) (stop : stops.Stop) → Follow (TakesTurn direction stopping cores) turns old mid →
    IsTurnIn direction cores (cut_at mid) (timeline_at mid) core → StepsInto direction stopping core mid new stop →
    GoesWith direction stopping cores lead old new stop
stopped_turn direction stopping cores lead turns core old mid new stop free turn steps = record {
  turns = turns;
  mid = mid;
  free = free;
  next = Some core;
  ends = record { turn = turn; steps = steps };
}
