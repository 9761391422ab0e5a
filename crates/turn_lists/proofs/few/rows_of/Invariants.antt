use Rattle.std.proofs.Common.{◌≡◌}
use Rattle.turn_lists.specs.Counts.{row_of, rows_of}
use Rattle.turn_lists.proofs.few.rows_of.Given as goal

abbrev pub invariant-loop-made : goal.invariant-loop-made
invariant-loop-made l = (l.rows.items ≡ rows_of l.greatest l._made) × (l.row ≡ row_of l.greatest l._made)
