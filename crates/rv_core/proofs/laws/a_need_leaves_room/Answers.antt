use Rattle.rv_core.proofs.LawLemmas.{room_law}
use Rattle.rv_core.proofs.StopLemmas.{total_law}
use Rattle.rv_core.proofs.laws.a_need_leaves_room.Goals as goal

pub returns-clause-room : goal.returns-clause-room
returns-clause-room c = room_law

pub returns-clause-total : goal.returns-clause-total
returns-clause-total c = total_law
