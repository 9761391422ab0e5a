use Rattle.machine_data.proofs.OneMore.{words_more}
use Rattle.machine_data.proofs.laws.one_access_more.Goals as goal

pub returns : goal.returns
returns c = words_more
