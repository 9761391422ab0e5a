use Rattle.std.proofs.Common.{◌∙◌, ap}
use Rattle.msi_cache.specs.Lines.{waits}
use Rattle.msi_cache.specs.Messages.{message_seen}
use Rattle.msi_memory.proofs.WaitingLines.{waits_kept}
use Rattle.msi_memory.proofs.port.respond.Goals as goal

pub returns-clause-waits : goal.returns-clause-waits
returns-clause-waits g c =
    ap waits c.respond.ensures.lines
    ∙ waits_kept g.R.Rider.riding c.args.cache.now (message_seen c.args.message) c.requires.ends
