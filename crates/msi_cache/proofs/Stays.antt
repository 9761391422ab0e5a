-- A line stays its block's when a message comes.
use Rattle.std.proofs.Common.{◌≡◌, refl, Option, Some, None}
use Rattle.access_times.specs.Riding.{Riding}
use Rattle.msi_cache.specs.Table.{Row, row}
use Rattle.msi_cache.specs.Lines.{line_after, line_by}
use Rattle.msi_cache.specs.Messages.{signal}
use Rattle.msi_cache.specs.declared.line.Line.{Line}
use Rattle.msi_cache.specs.declared.messages.FromHome.{FromHome}

pub after_block : {R : Type 0} (riding : Riding R) (l : Line R) (m : FromHome R) →
    (line_after riding l m).block ≡ l.block
after_block riding l m = by_row (row (signal m) l.state)
  where
    by_row : (o : Option Row) → (line_by riding o m l).block ≡ l.block
    by_row None = refl
    by_row (Some r) = refl
