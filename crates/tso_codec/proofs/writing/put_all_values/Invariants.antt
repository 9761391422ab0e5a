use Rattle.std.proofs.Common.{◌≡◌, ◌++◌, drop}
use Rattle.rtr_types.specs.Turns.{count_up}
use Rattle.log_codec.specs.Turns.{spelled_in_turn, alike}
use Rattle.tso_codec.specs.Spelling.{values_text, all_values_text}
use Rattle.tso_codec.proofs.writing.put_all_values.Given as goal

abbrev pub invariant-loop-core : goal.invariant-loop-core
invariant-loop-core l = l.out.items ++ spelled_in_turn (alike values_text) count_up l.core (drop l.core l.values)
    ≡ l.fn.out.items
    ++ all_values_text l.values
