-- Rule: how long a round's batches are: batch_after
-- How many runs each thread makes in a round, by the time that the round before took.
use Rattle.std.specs.Prelude.{ℕ, ◌*◌, ◌/◌, max, min, nat_lt, if◌then◌else◌}
use Rattle.run_ranges.specs.declared.batches.TheConstants.{LONG, RUNS_MAX, SHORT}

-- twice as many where the round with so many took less than SHORT milliseconds, half as many where it took more than
-- LONG, and else as many again; from 1 to RUNS_MAX
abbrev pub batch_after : (runs millis : ℕ) → ℕ
batch_after runs millis =
    if nat_lt millis SHORT then min (runs * 2) RUNS_MAX else if nat_lt LONG millis then max (runs / 2) 1 else runs
