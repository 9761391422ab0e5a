use Rattle.cut_replay.proofs.Unique.{one_least, one_greatest}
use Rattle.cut_replay.proofs.laws.one_cut_each.Goals as goal

pub returns : goal.returns
returns c = record { least = one_least; greatest = one_greatest }
