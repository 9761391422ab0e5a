use Rattle.std.proofs.Common.{arith}
use Rattle.std.proofs.lemmas.Bool.Decides.{nat_tests}
use Rattle.image_elf.specs.Headers.{header_count}
use Rattle.image_elf.proofs.CellLemmas.{taken_is}
use Rattle.image_elf.proofs.flattening.accepts_entry.Goals as goal

pub returns-else-entry-eq0-2 : goal.returns-else-entry-eq0-2
returns-else-entry-eq0-2 c =
    let taken = taken_is c.args.file.now (header_count c.args.file.now) c.args.cells.now 0 4 c.requires.loaded
    c.is_free.result c.is_free.ensures in
    grind (arith, nat_tests)
