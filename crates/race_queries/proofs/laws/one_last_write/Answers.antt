use Rattle.race_queries.proofs.Writes.{one_last_write}
use Rattle.race_queries.proofs.laws.one_last_write.Goals as goal

pub returns : goal.returns
returns c = one_last_write
