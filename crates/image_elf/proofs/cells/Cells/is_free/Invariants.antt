use Rattle.image_elf.specs.Cells.{IsFree}
use Rattle.image_elf.proofs.cells.Cells.is_free.Given as goal

-- nothing stands at the addresses that were looked at
abbrev pub invariant-loop-address : goal.invariant-loop-address
invariant-loop-address l = IsFree l.self l.start l.address
