use Rattle.std.proofs.Common.{◌≡◌, ◌++◌, take}
use Rattle.core_file.specs.CoreFiles.{notes_of, spelled}
use Rattle.core_file.proofs.core_bytes.put_notes.Given as goal

abbrev pub invariant-loop-core : goal.invariant-loop-core
invariant-loop-core l = l.out.items ≡ l.fn.out.items ++ spelled (notes_of (take l.core-index l.cores))
