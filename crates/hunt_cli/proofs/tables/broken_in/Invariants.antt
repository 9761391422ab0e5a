use Rattle.std.proofs.Common.{◌≡◌, take}
use Rattle.std.specs.Prelude.{sum_by}
use Rattle.run_ranges.specs.declared.rows.Row.{Row}
use Rattle.hunt_cli.proofs.tables.broken_in.Given as goal

abbrev pub invariant-loop-row : goal.invariant-loop-row
invariant-loop-row l = l.broken ≡ sum_by (λ (row : Row). row.broken) (take l.row-index l.rows)
