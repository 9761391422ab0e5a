-- The order of retirement decides by logs that cover the run.
use Rattle.std.proofs.Common.{subst, List, inr}
use Rattle.rtr_types.specs.declared.access.Access.{Access}
use Rattle.rtr_types.specs.declared.pairs.Which.TheVariants.{Reduced}
use Rattle.clock_core.specs.Order.{Among, Relation}
use Rattle.clock_core.proofs.Paths.{mapped, one}
use Rattle.conflict_edge.specs.Conflicts.{ConflictPair}
use Rattle.race_log.specs.Sources.{log_edges}
use Rattle.run_records.specs.Recordings.{recording_of}
use Rattle.run_replays.proofs.RunLaws.{forward_law, of_run, reduced_forward, run_is_play}
use Rattle.run_records.proofs.Recordings.{least}
use Rattle.run_replays.specs.Deciding.{ReducedDecidesLaw, RunDecidesLaw}

pub run_decides : RunDecidesLaw
run_decides image params schedule r which fits words h covers =
    let played = run_is_play image params schedule r which fits words h in
    let reduced : Relation = Among (log_edges Reduced (recording_of image params schedule)) in
    record {
      ordered = forward_law image params schedule r which fits words h covers.forward;
      whole = played.whole;
      plays = played.plays;
      suffices = λ x y pair.
          mapped reduced (Among (log_edges which r)) covers.implied x y
          ((least image params schedule fits).suffices x y
          (subst (λ (l : List Access). ConflictPair l x y) played.accesses pair));
    }

pub reduced_decides : ReducedDecidesLaw
reduced_decides image params schedule fits words =
    let reduced : Relation = Among (log_edges Reduced (recording_of image params schedule)) in
    run_decides image params schedule (recording_of image params schedule) Reduced fits words
    (of_run image params schedule)
    (record {
      forward = reduced_forward image params schedule fits;
      implied = λ x y edge. one reduced x y (inr edge);
    })
