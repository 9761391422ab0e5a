use Rattle.std.proofs.Common.{◌≡◌, ◌++◌, drop, take}
use Rattle.run_ranges.specs.Tables.{added}
use Rattle.run_ranges.proofs.rows.add_row.Given as goal

-- the row isn't put before those so far
abbrev pub invariant-loop-k : goal.invariant-loop-k
invariant-loop-k l = record {
  same : l.rows.items ≡ l.fn.rows.items;
  added_so : added l.row l.rows.items ≡ take l.k l.rows.items ++ added l.row (drop l.k l.rows.items);
}
