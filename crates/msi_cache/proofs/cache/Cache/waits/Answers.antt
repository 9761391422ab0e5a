-- Some line waits where the number isn't 0.
use Rattle.std.proofs.Common.{◌∙◌, ap}
use Rattle.std.specs.Prelude.{nat_lt}
use Rattle.msi_cache.specs.Lines.{waits}
use Rattle.msi_cache.proofs.WaitCounts.{some_wait}
use Rattle.msi_cache.proofs.cache.Cache.waits.Goals as goal

pub returns : goal.returns
returns g c =
    ap (nat_lt 0) c.self.invariant.1 ∙ some_wait c.self.inside.lines.items ∙ ap waits c.self.view_is
