use Rattle.std.proofs.Common.{◌≡◌, ◌-◌, length}
use Rattle.rtr_types.specs.Turns.{stay}
use Rattle.log_codec.specs.Turns.{read_in_turn}
use Rattle.log_codec.specs.Reading.{total_at}
use Rattle.log_codec.proofs.InTurn.{with_front}
use Rattle.log_codec.proofs.fields.totals.Given as goal

abbrev pub invariant-loop : goal.invariant-loop
invariant-loop l = record {
  each : length l.found ≡ l.counter;
  read : with_front l.found (read_in_turn (λ (s : Unit {0}). total_at l.limit) stay (l.cores - l.counter) tt l.rest)
      ≡ read_in_turn (λ (s : Unit {0}). total_at l.limit) stay l.cores tt l.bytes;
}
