use Rattle.race_answers.proofs.OnePc.{one_pc_law}
use Rattle.race_answers.proofs.laws.one_pc.Goals as goal

pub returns : goal.returns
returns c = one_pc_law
