use Rattle.std.proofs.Common.{◌+◌, ◌*◌, ◌≤◌, length, vec_len}
use Rattle.run_ranges.specs.Rounds.{AreTables}
use Rattle.run_ranges.specs.Tables.{IsTable}
use Rattle.run_ranges.proofs.tables.table_of_round.Given as goal

-- the rows are the table of the batches that were taken from the end
abbrev pub invariant-loop-table : goal.invariant-loop-table
invariant-loop-table g l = record {
  few : length l.tables.items ≤ l.fn.batches;
  each : AreTables (λ t. t.items) (g.T.Trial.ends l.trial) (g.T.Trial.breaks l.trial) l.fn.from l.fn.batch l.tables.items;
  table : IsTable (g.T.Trial.ends l.trial) (g.T.Trial.breaks l.trial) (l.fn.from + l.fn.batch * length l.tables.items)
      (l.fn.from + l.fn.batch * l.fn.batches) l.all.items;
}

abbrev pub decreases-loop-table : goal.decreases-loop-table
decreases-loop-table g l = vec_len l.tables
