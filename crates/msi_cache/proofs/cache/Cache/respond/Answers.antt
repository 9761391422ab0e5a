-- The line that answered may wait no longer.
use Rattle.msi_cache.proofs.WaitCounts.{recounted}
use Rattle.msi_cache.proofs.cache.Cache.respond.Goals as goal

pub invariant_of-self : goal.invariant_of-self
invariant_of-self g c =
    recounted c.self.inside.lines.items c.block.result c.index_mut-line.result.now c.respond.new.self
    c.self.inside.waiting _ _ _ c.self.invariant c.index_mut-line.ensures.value c.is_transient-waited.ensures
    c.is_transient.ensures c.waiting_after-self-inside.ensures
