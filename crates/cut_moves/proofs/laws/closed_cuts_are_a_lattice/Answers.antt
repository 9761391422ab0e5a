use Rattle.cut_moves.proofs.Unions.{union_least as least, union_closed, intersection_greatest as greatest}
use Rattle.cut_moves.proofs.Unions.{intersection_closed as common_closed}
use Rattle.cut_moves.proofs.laws.closed_cuts_are_a_lattice.Goals as goal

pub returns : goal.returns
returns c =
    record { union = least; union_closed = union_closed; intersection = greatest; intersection_closed = common_closed }
