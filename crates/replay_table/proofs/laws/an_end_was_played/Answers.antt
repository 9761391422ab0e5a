use Rattle.replay_table.proofs.ClosedAccesses.{end_played}
use Rattle.replay_table.proofs.laws.an_end_was_played.Goals as goal

pub returns : goal.returns
returns c = end_played
