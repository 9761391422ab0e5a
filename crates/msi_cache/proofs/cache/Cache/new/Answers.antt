-- Of empty lines none waits.
use Rattle.std.proofs.Common.{◌≡◌, ◌∙◌, arith, ap, length, sym}
use Rattle.std.proofs.lemmas.List.{length-replicate}
use Rattle.msi_cache.specs.Lines.{empty_line}
use Rattle.msi_cache.specs.Waiting.{how_many_wait}
use Rattle.msi_cache.proofs.WaitCounts.{none_empty}
use Rattle.msi_cache.proofs.cache.Cache.new.Goals as goal

pub invariant_of-result : goal.invariant_of-result
invariant_of-result g c =
    let made : c.loop-made.made ≡ 16 = omega (arith, c.loop-made.auto.made-end, c.loop-made-test.false) in (
      ap length c.loop-made.invariant
          ∙ length-replicate c.loop-made.made (empty_line g.R.Rider.riding.fresh) ∙ made,
      sym (ap how_many_wait c.loop-made.invariant ∙ none_empty c.loop-made.made g.R.Rider.riding.fresh),
    )
