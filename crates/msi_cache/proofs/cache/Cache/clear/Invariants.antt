use Rattle.std.proofs.Common.{◌≡◌, ◌++◌, drop, replicate}
use Rattle.msi_cache.specs.Lines.{empty_line}
use Rattle.msi_cache.proofs.cache.Cache.clear.Given as goal

-- the lines up to here are empty, and the others as they were
abbrev pub invariant-loop-place : goal.invariant-loop-place
invariant-loop-place g l =
    l.self-inside.lines.items
    ≡ replicate l.place (empty_line g.R.Rider.riding.fresh) ++ drop l.place l.initial.self-inside.lines.items
