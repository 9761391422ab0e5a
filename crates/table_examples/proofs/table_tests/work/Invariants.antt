use Rattle.std.proofs.Common.{◌≡◌}
use Rattle.table_examples.proofs.table_tests.work.Given as goal

abbrev pub invariant-loop-look : goal.invariant-loop-look
invariant-loop-look g l = l.seat.table_id ≡ l.fn.seat.table_id
