use Rattle.tso_recordings.proofs.Plays.{played}
use Rattle.tso_recordings.proofs.laws.what_is_told_is_a_play.Goals as goal

pub returns : goal.returns
returns c = played
