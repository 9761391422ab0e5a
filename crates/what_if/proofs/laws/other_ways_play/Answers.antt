use Rattle.what_if.proofs.OtherPlays.{other_plays}
use Rattle.what_if.proofs.laws.other_ways_play.Goals as goal

pub returns : goal.returns
returns c = other_plays
