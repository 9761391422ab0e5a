-- What is told of an instruction that isn't there.
use Rattle.std.specs.Prelude.{ℕ, List, ◌++◌, codes, decimal}
use Rattle.rtr_types.specs.declared.instr.Instr.{Instr}
use Rattle.gdb_commands.specs.Lines.{line}

abbrev pub no_instr_text : Instr → List ℕ
no_instr_text at = line (codes "rtr_gdb: no instruction " ++ decimal at.core ++ codes ":" ++ decimal at.count)
