use Rattle.rtr_cli.proofs.OneOutput.{makes_one}
use Rattle.rtr_cli.proofs.laws.each_command_makes_one_output.Goals as goal

pub returns : goal.returns
returns c = makes_one c.one_cut_each.ensures.least c.one_cut_each.ensures.greatest c.one_state.ensures
