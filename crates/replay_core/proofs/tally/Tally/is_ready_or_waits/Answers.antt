use Rattle.std.proofs.Common.{sym}
use Rattle.replay_core.proofs.LowestReady.{unready_at}
use Rattle.replay_core.proofs.tally.Tally.is_ready_or_waits.Goals as goal

pub returns-in-Some-clause-ready : goal.returns-in-Some-clause-ready
returns-in-Some-clause-ready c =
    sym (unready_at c.args.self.now c.args.core c.in-Some.of c.in-Some.count c.in-Some.ensures)
