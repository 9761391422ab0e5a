use Rattle.std.proofs.Common.{◌≡◌, ◌++◌, take, string_bytes}
use Rattle.std.specs.List.{flat_map}
use Rattle.gdb_commands.specs.Lines.{count_text}
use Rattle.gdb_commands.proofs.lines.put_counts.Given as goal

-- the text so far
abbrev pub invariant-loop-count : goal.invariant-loop-count
invariant-loop-count l =
    string_bytes l.text ≡ string_bytes l.initial.text ++ flat_map count_text (take l.count-index l.counts)
