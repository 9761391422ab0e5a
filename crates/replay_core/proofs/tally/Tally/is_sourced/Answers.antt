use Rattle.std.proofs.Common.{sym}
use Rattle.replay_core.proofs.LowestReady.{unsourced_at}
use Rattle.replay_core.proofs.tally.Tally.is_sourced.Goals as goal

pub returns-in-Some : goal.returns-in-Some
returns-in-Some c =
    sym (unsourced_at c.args.self.now c.args.core c.in-Some.field-0.0 c.in-Some.field-0.1 c.in-Some.ensures)
