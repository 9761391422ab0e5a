use Rattle.machine_data.proofs.Remembers.{recalled}
use Rattle.machine_data.proofs.laws.an_access_finds_the_last_value.Goals as goal

pub returns : goal.returns
returns c = recalled.find
