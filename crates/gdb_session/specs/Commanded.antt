-- A command of the debugger's user: what it means, what it does to the place, and how what is told is answered.
use Rattle.std.specs.Prelude.{◌≡◌, ℕ, List}
use Rattle.debug_place.specs.Places.{Placed}
use Rattle.cut_marks.specs.declared.marks.Mark.{Mark}
use Rattle.gdb_commands.specs.Commands.{command_of}
use Rattle.gdb_monitor.specs.Obeying.{Obeys}
use Rattle.gdb_commands.specs.Payloads.{payloads_of}

pub record IsCommanded (text : List ℕ) (marks : List Mark) (old new : Placed) (payloads : List (List ℕ)) : Type 0 where
  pub told : List ℕ
  pub obeys : Obeys (command_of text) marks old new told
  pub payloads_are : payloads ≡ payloads_of told
