use Rattle.std.proofs.Common.{◌≡◌}
use Rattle.gdb_commands.specs.Payloads.{outputs}
use Rattle.gdb_commands.proofs.payloads.outputs.Given as goal

-- the payloads so far
abbrev pub invariant-loop-part : goal.invariant-loop-part
invariant-loop-part l = l.payloads ≡ outputs l.text l.part
