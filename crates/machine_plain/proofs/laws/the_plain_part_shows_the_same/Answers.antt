use Rattle.machine_plain.proofs.SameMoves.{plain_moves}
use Rattle.machine_plain.proofs.Shows.{plain_start, plain_done, plain_words}
use Rattle.machine_plain.proofs.laws.the_plain_part_shows_the_same.Goals as goal

pub returns : goal.returns
returns g c = record { moves = plain_moves; start = plain_start; done = plain_done; memory = plain_words }
