use Rattle.std.proofs.Common.{◌≡◌}
use Rattle.table_examples.proofs.turn_tests.until_ended.Given as goal

abbrev pub invariant-loop-raced : goal.invariant-loop-raced
invariant-loop-raced g l = l.worker.table_id ≡ l.fn.worker.table_id
