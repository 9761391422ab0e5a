use Rattle.replay_table.proofs.Fresh.{opening_law, fresh_law}
use Rattle.replay_table.proofs.laws.a_table_opens.Goals as goal

pub returns : goal.returns
returns c = record { keeps = opening_law; alone = fresh_law }
