use Rattle.vector_reduce.proofs.ClosedCuts.{closed_holds, cut_shows}
use Rattle.vector_reduce.proofs.laws.closed_cuts.Goals as goal

pub returns : goal.returns
returns c = record { holds = closed_holds; shows = cut_shows }
