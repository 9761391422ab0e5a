use Rattle.machine_data.proofs.Remembers.{recalled}
use Rattle.machine_data.proofs.laws.final_memory_law.Goals as goal

pub returns : goal.returns
returns c = recalled.leave
