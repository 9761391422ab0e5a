use Rattle.std.proofs.Common.{◌≡◌, ◌++◌, drop}
use Rattle.rtr_types.specs.Turns.{StandInTurn}
use Rattle.log_codec.specs.Turns.{spelled_in_turn}
use Rattle.tso_codec.specs.Spelling.{value_text, values_text}
use Rattle.tso_codec.specs.Validity.{ValueStands, count_of}
use Rattle.tso_codec.proofs.writing.put_values.Given as goal

abbrev pub invariant-loop-value : goal.invariant-loop-value
invariant-loop-value l = record {
  stand : StandInTurn (ValueStands l.total) count_of l.last (drop l.value-index l.values);
  wrote : l.out.items ++ spelled_in_turn value_text count_of l.last (drop l.value-index l.values)
      ≡ l.fn.out.items ++ values_text l.values;
}
