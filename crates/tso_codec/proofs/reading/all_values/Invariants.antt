use Rattle.std.proofs.Common.{◌≡◌, ◌-◌}
use Rattle.rtr_types.specs.Turns.{count_up}
use Rattle.log_codec.specs.Turns.{read_in_turn}
use Rattle.log_codec.proofs.InTurn.{with_front}
use Rattle.tso_codec.specs.Reading.{values_of_at, all_values_at}
use Rattle.tso_codec.proofs.reading.all_values.Given as goal

abbrev pub invariant-loop-core : goal.invariant-loop-core
invariant-loop-core l = with_front l.found
    (read_in_turn (values_of_at l.totals) count_up (l.cores - l.core) l.core l.rest)
    ≡ all_values_at l.cores l.totals l.bytes
