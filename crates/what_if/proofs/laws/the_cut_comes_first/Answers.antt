use Rattle.what_if.proofs.Cuts.{cut_first}
use Rattle.what_if.proofs.laws.the_cut_comes_first.Goals as goal

pub returns : goal.returns
returns c = cut_first
