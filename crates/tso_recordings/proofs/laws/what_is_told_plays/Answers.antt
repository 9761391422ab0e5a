use Rattle.tso_recordings.proofs.Tells.{told_plays}
use Rattle.tso_recordings.proofs.laws.what_is_told_plays.Goals as goal

pub returns : goal.returns
returns c = told_plays
