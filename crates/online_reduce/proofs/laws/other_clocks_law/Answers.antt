use Rattle.online_reduce.proofs.ExactNext as exact
use Rattle.online_reduce.proofs.laws.other_clocks_law.Goals as goal

pub returns : goal.returns
returns c = exact.other_clocks_law
