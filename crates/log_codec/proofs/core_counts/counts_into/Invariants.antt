use Rattle.std.proofs.Common.{◌≡◌, ◌+◌, ◌-◌, drop, length, take}
use Rattle.rtr_types.specs.Turns.{count_up}
use Rattle.log_codec.specs.Turns.{read_in_turn}
use Rattle.log_codec.proofs.InTurn.{with_front}
use Rattle.log_codec.specs.CoreCounts.{count_at}
use Rattle.log_codec.proofs.core_counts.counts_into.Given as goal

-- what the list had is there still, and the counts so far stand behind it
abbrev pub invariant-loop-core : goal.invariant-loop-core
invariant-loop-core l = record {
  all : length l.found ≡ length l.fn.found + l.core;
  kept : take (length l.fn.found) l.found ≡ l.fn.found;
  read : with_front (drop (length l.fn.found) l.found)
      (read_in_turn (count_at l.part l.totals) count_up (length l.totals - l.core) l.core l.rest)
      ≡ read_in_turn (count_at l.part l.totals) count_up (length l.totals) 0 l.bytes;
}
