use Rattle.std.proofs.Common.{arith}
use Rattle.std.proofs.lemmas.Result.{on_ok_weaker}
use Rattle.edge_regulate.proofs.Rooms.{all_ready}
use Rattle.edge_regulate.proofs.regulator.Regulator.ready.Goals as goal

pub returns-clause-ready : goal.returns-clause-ready
returns-clause-ready c =
    on_ok_weaker c.make_room.result
    (λ ready pair within. all_ready c.self.inside.pairs c.make_room.new.self pair c.make_room.ensures.items ready
    (let long = c.self.invariant.1 in omega arith)) c.make_room.ensures.ready
