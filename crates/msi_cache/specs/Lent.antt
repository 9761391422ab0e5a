-- What a cache ends as, once a rider of it was lent.
use Rattle.std.specs.Prelude.{ℕ, List}
use Rattle.std.specs.Borrow.{Fml, RattleType, MutBor, Lends}
use Rattle.msi_cache.specs.Lines.{lines_riding}
use Rattle.msi_cache.specs.declared.line.Line.{Line}
use Rattle.msi_cache.specs.contracts.cache.Cache.{the_row}

-- the cache ends with the last value behind the loan as the rider of the block's copy, and with
-- nothing else changed
abbrev pub LendsRider : (R : RattleType) → R.Denot → MutBor (List (Line R.Denot)) → ℕ → MutBor R.Denot → Fml
LendsRider R fresh lines block rider = Lends (the_row R) R lines rider (lines_riding fresh lines.now block)
