-- Which accesses to a word are told.
use Rattle.std.specs.Prelude.{nat_eq, Bool, true, List, filter}
use Rattle.rtr_types.specs.Accesses.{is_write}
use Rattle.rtr_types.specs.declared.access.Access.{Access}
use Rattle.gdb_commands.specs.declared.filters.Filter.{Filter}
use Rattle.gdb_commands.specs.declared.filters.Filter.TheVariants.{Every, Writes, ByCore}

abbrev pub is_chosen : Filter → Access → Bool
is_chosen Every access = true
is_chosen Writes access = is_write access.kind
is_chosen (ByCore core) access = nat_eq access.at.core core

abbrev pub chosen : Filter → List Access → List Access
chosen which list = filter (is_chosen which) list
