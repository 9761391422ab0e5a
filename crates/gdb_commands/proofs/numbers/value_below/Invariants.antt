use Rattle.std.proofs.Common.{◌≡◌, ◌^◌, ◌<◌, take}
use Rattle.std.specs.Str.Parse.{digits_value}
use Rattle.gdb_commands.proofs.numbers.value_below.Given as goal

-- the value of the digits so far
abbrev pub invariant-loop-b : goal.invariant-loop-b
invariant-loop-b l = record {
  value : l.value ≡ digits_value 10 (take l.b-index l.text);
  small : l.value < 2 ^ 32;
}
