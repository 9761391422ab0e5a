use Rattle.replay_core.proofs.Images.{by_image, same_start}
use Rattle.replay_core.proofs.laws.plays_go_by_the_image.Goals as goal

pub returns : goal.returns
returns c = record { play = by_image; start = same_start }
