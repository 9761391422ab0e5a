use Rattle.image_elf.proofs.FillLemmas.{FilledUpTo}
use Rattle.image_elf.proofs.cells.Cells.load.Given as goal

-- the range is filled up to the address
abbrev pub invariant-loop-address : goal.invariant-loop-address
invariant-loop-address l = FilledUpTo l.file l.header l.initial.self-inside.cells.items l.self-inside.cells.items
    l.address
