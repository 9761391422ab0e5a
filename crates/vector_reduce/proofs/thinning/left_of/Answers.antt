use Rattle.vector_reduce.proofs.ThinnedLog.{left_needed}
use Rattle.vector_reduce.proofs.thinning.left_of.Goals as goal

pub shown_of-requires-clause-needed : goal.shown_of-requires-clause-needed
shown_of-requires-clause-needed c = left_needed c.args.recording.now c.in_ok-left.left c.in_ok-left.ensures

pub returns : goal.returns
returns c = record {
  left = c.in_ok-left.ensures;
  least = c.in_ok-shown.ensures.least;
  formed = c.in_ok-shown.ensures.formed;
}
