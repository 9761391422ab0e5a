use Rattle.std.proofs.Common.{◌-◌, ◌≤◌}
use Rattle.run_ranges.specs.Tables.{IsTable}
use Rattle.run_ranges.proofs.tables.table_of_range.Given as goal

-- the rows are the table of the runs so far
abbrev pub invariant-loop-at : goal.invariant-loop-at
invariant-loop-at g l = record {
  low : l.fn.from ≤ l.at;
  high : l.at ≤ l.to;
  table : IsTable (g.T.Trial.ends l.trial) (g.T.Trial.breaks l.trial) l.fn.from l.at l.rows.items;
}

abbrev pub decreases-loop-at : goal.decreases-loop-at
decreases-loop-at g l = l.to - l.at
