use Rattle.std.proofs.Common.{length, ◌-◌, ◌≡◌, ◌≤◌, take}
use Rattle.std.specs.Io.KnownBytes.{Appends}
use Rattle.rtr_io.proofs.transfer.write_all.Given as goal

-- what was given so far is the bytes' front, and no call failed
abbrev pub invariant-loop-given : goal.invariant-loop-given
invariant-loop-given g l = record {
  within : l.given ≤ length l.bytes;
  front : Appends (g.S.Sink.got l.initial.sink) (g.S.Sink.got l.sink) (take l.given l.bytes);
  count : g.S.Sink.faults l.sink ≡ g.S.Sink.faults l.initial.sink;
}

abbrev pub decreases-loop-given : goal.decreases-loop-given
decreases-loop-given g l = length l.bytes - l.given
