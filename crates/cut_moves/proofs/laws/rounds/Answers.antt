use Rattle.cut_moves.proofs.Rounds.{rounds_ordered, rounds_end, rounds_whole}
use Rattle.cut_moves.proofs.laws.rounds.Goals as goal

pub returns : goal.returns
returns c = record { ordered = rounds_ordered; end = rounds_end; whole = rounds_whole }
