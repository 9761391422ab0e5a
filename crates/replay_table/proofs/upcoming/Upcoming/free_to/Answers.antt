use Rattle.std.proofs.Common.{arith}
use Rattle.replay_table.proofs.upcoming.Upcoming.free_to.Goals as goal

pub returns : goal.returns
returns c which r k n valid is from to =
    c.free_to.ensures which r k.id n valid is.coming (omega arith) (omega arith)
