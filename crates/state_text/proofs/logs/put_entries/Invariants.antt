-- the text of the pairs so far
use Rattle.std.proofs.Common.{◌≡◌, ◌++◌, take, string_bytes}
use Rattle.std.specs.List.{flat_map, enumerate_from}
use Rattle.state_text.specs.Logs.{lines_at}
use Rattle.state_text.proofs.logs.put_entries.Given as goal

abbrev pub invariant-loop-place : goal.invariant-loop-place
invariant-loop-place g l =
    string_bytes l.text ≡ string_bytes l.initial.text ++ flat_map (lines_at g.T.Entry.line l.cores)
    (enumerate_from 0 (take l.place l.lists))
