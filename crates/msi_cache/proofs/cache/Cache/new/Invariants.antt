use Rattle.std.proofs.Common.{◌≡◌, replicate}
use Rattle.msi_cache.specs.Lines.{empty_line}
use Rattle.msi_cache.proofs.cache.Cache.new.Given as goal

-- each line made so far is empty
abbrev pub invariant-loop-made : goal.invariant-loop-made
invariant-loop-made g l = l.lines.items ≡ replicate l.made (empty_line g.R.Rider.riding.fresh)
