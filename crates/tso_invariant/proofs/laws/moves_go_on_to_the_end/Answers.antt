use Rattle.machine_invariant.proofs.InvariantPromise.{moves_on}
use Rattle.tso_invariant.proofs.DoneMachine.{links_left, moves_left}
use Rattle.tso_invariant.proofs.MoveGrounds.{rooms_there, rows_there}
use Rattle.tso_invariant.proofs.Stuck.{some_move}
use Rattle.tso_invariant.proofs.laws.moves_go_on_to_the_end.Goals as goal

pub returns : goal.returns
returns g c = moves_on rows_there rooms_there some_move links_left moves_left
