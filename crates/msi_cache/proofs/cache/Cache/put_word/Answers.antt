-- A word changes no line's state.
use Rattle.std.proofs.Common.{arith, refl, ◌<◌, ◌%◌, ◌∙◌}
use Rattle.std.proofs.lemmas.List.{length-set}
use Rattle.std.proofs.lemmas.Nat.{mod_below}
use Rattle.msi_cache.proofs.WaitCounts.{same_state}
use Rattle.msi_cache.proofs.cache.Cache.put_word.Goals as goal

pub invariant_of-self : goal.invariant_of-self
invariant_of-self g c =
    let low : c.args.block % 16 < 16 = mod_below c.args.block 16 (omega arith) in (
      length-set c.self.inside.lines.items (c.args.block % 16) _ ∙ c.self.invariant.0,
      same_state c.self.inside.lines.items (c.args.block % 16) c.index_mut.result.now _ c.self.inside.waiting
          (omega (arith, low, c.self.invariant.0)) c.index_mut.ensures.value c.self.invariant.1 refl,
    )
