use Rattle.machine_invariant.proofs.DoneCores.{links_left}
use Rattle.machine_invariant.proofs.InvariantPromise.{moves_on}
use Rattle.machine_invariant.proofs.DoneMachine.{moves_left}
use Rattle.machine_invariant.proofs.MoveGrounds.{rows_there, rooms_there}
use Rattle.machine_invariant.proofs.Stuck.{some_move}
use Rattle.machine_invariant.proofs.laws.moves_go_on_to_the_end.Goals as goal

pub returns : goal.returns
returns g c = moves_on rows_there rooms_there some_move links_left moves_left
