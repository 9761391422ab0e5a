-- the text of the counts so far
use Rattle.std.proofs.Common.{◌≡◌, ◌++◌, take, string_bytes}
use Rattle.std.specs.List.{flat_map}
use Rattle.state_text.specs.Exits.{count_text}
use Rattle.state_text.proofs.cuts.put_counts.Given as goal

abbrev pub invariant-loop-count : goal.invariant-loop-count
invariant-loop-count l =
    string_bytes l.text ≡ string_bytes l.initial.text ++ flat_map count_text (take l.count-index l.count-items)
