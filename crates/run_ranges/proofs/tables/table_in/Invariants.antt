use Rattle.run_ranges.specs.Tables.{IsTable}
use Rattle.run_ranges.proofs.tables.table_in.Given as goal

-- the rows are the table of the runs so far
abbrev pub invariant-loop-n : goal.invariant-loop-n
invariant-loop-n g l = record {
  table : IsTable (g.T.Runs.ends l.runs) (g.T.Runs.breaks l.runs) l.fn.from l.n l.rows.items;
  serves : g.T.Runs.serves l.runs l.bench;
}
