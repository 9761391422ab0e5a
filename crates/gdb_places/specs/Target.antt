-- The description of the machine: a text of the code.
use Rattle.std.specs.Prelude.{ℕ, List}
use Rattle.gdb_places.specs.declared.target.TheConstants.{TARGET}

abbrev pub target_text : List ℕ
target_text = TARGET.now
