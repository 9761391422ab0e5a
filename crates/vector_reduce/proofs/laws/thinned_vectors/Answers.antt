use Rattle.vector_reduce.proofs.Edges.{vectors_are_the_log}
use Rattle.vector_reduce.proofs.ThinningAnswers.{needed_stays, one_thinning, shown_is_needed, thinned_is_needed}
use Rattle.vector_reduce.proofs.ThinningAnswers.{thinned_is_same}
use Rattle.vector_reduce.proofs.laws.thinned_vectors.Goals as goal

pub returns : goal.returns
returns c = record {
  log = vectors_are_the_log;
  same = thinned_is_same;
  needed = thinned_is_needed;
  one = one_thinning;
  stays = needed_stays;
  shown = shown_is_needed;
}
