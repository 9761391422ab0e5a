use Rattle.replay_core.proofs.Counts.{counts_on as counts}
use Rattle.replay_core.proofs.Lists.{play_on as play, accesses_on as accesses, plays_on as plays, ordered_on as ordered}
use Rattle.replay_core.proofs.laws.lists_go_on.Goals as goal

pub returns : goal.returns
returns c = record { counts = counts; play = play; accesses = accesses; plays = plays; ordered = ordered }
