use Rattle.std.proofs.Common.{◌≡◌, ◌++◌}
use Rattle.std.specs.Prelude.{string_bytes}
use Rattle.gdb_monitor.specs.Slack.{slack_rows}
use Rattle.gdb_monitor.proofs.slack.put_rows.Given as goal

-- the rows so far
abbrev pub invariant-loop-core : goal.invariant-loop-core
invariant-loop-core l =
    string_bytes l.text ≡ string_bytes l.initial.text ++ slack_rows l.core l.least l.greatest l.here
