use Rattle.std.proofs.Common.{◌≡◌, ◌<◌, ◌≤◌, ◌^◌, drop}
use Rattle.varint_core.proofs.ByteReading.{read_on}
use Rattle.varint_core.proofs.take_u32.Given as goal

abbrev pub invariant-loop-i : goal.invariant-loop-i
invariant-loop-i l = record {
  few : l.i ≤ 5;
  scale_is : l.scale ≡ 128 ^ l.i;
  value_fits : l.value < l.scale;
  rest : read_on l.i l.scale l.value (drop l.i l.bytes) ≡ read_on 0 1 0 l.bytes;
}
