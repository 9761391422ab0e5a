use Rattle.replay_core.proofs.Lists.{short_law}
use Rattle.replay_core.proofs.Places.{play_start_law, place_law, play_law}
use Rattle.replay_core.proofs.laws.plays_are_known.Goals as goal

pub returns : goal.returns
returns c = record { start = play_start_law; place = place_law; play = play_law; short = short_law }
