-- the text of the entries so far
use Rattle.std.proofs.Common.{◌≡◌, ◌++◌, take, string_bytes}
use Rattle.std.specs.List.{flat_map}
use Rattle.state_text.proofs.logs.put_entries_at.Given as goal

abbrev pub invariant-loop-entry : goal.invariant-loop-entry
invariant-loop-entry g l =
    string_bytes l.text ≡ string_bytes l.initial.text
    ++ flat_map (g.T.Entry.line l.from l.to) (take l.entry-index l.entries)
