-- the bytes of the instructions so far
use Rattle.std.proofs.Common.{◌≡◌, flat_map, take}
use Rattle.trace_gen.specs.Programs.{instruction_bytes}
use Rattle.trace_gen.proofs.image.image_of.Given as goal

abbrev pub invariant-loop-op : goal.invariant-loop-op
invariant-loop-op l = l.image.items ≡ flat_map instruction_bytes (take l.op-index l.program)
