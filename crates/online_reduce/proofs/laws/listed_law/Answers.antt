use Rattle.online_reduce.proofs.Reductions as reductions
use Rattle.online_reduce.proofs.laws.listed_law.Goals as goal

pub returns : goal.returns
returns c = reductions.listed_law
