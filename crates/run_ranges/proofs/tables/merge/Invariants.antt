use Rattle.std.proofs.Common.{◌≡◌, ◌+◌, ◌<◌, ◌^◌, vec_len}
use Rattle.std.specs.Prelude.{sum_by}
use Rattle.run_ranges.specs.Tables.{merged}
use Rattle.run_ranges.proofs.tables.merge.Given as goal

-- with those that are left, these are all rows
abbrev pub invariant-loop-row : goal.invariant-loop-row
invariant-loop-row l = record {
  all : merged l.rows.items l.later.items ≡ merged l.fn.rows.items l.fn.later.items;
  counts : sum_by (λ r. r.count) l.rows.items + sum_by (λ r. r.count) l.later.items < 2 ^ 64;
  broken : sum_by (λ r. r.broken) l.rows.items + sum_by (λ r. r.broken) l.later.items < 2 ^ 64;
}

abbrev pub decreases-loop-row : goal.decreases-loop-row
decreases-loop-row l = vec_len l.later
