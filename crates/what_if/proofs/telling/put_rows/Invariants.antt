use Rattle.std.proofs.Common.{◌≡◌, ◌++◌, take, string_bytes}
use Rattle.std.specs.List.{flat_map}
use Rattle.what_if.specs.Told.{word_row}
use Rattle.what_if.proofs.telling.put_rows.Given as goal

-- the rows so far
abbrev pub invariant-loop-word : goal.invariant-loop-word
invariant-loop-word l =
    string_bytes l.text
    ≡ string_bytes l.initial.text ++ flat_map (word_row l.words l.recorded) (take l.word-index l.list)
