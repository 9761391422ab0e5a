-- the text of the words so far
use Rattle.std.proofs.Common.{◌≡◌, ◌++◌, take, string_bytes}
use Rattle.std.specs.List.{flat_map, enumerate_from}
use Rattle.state_text.specs.States.{memory_line}
use Rattle.state_text.proofs.states.put_words.Given as goal

abbrev pub invariant-loop-k : goal.invariant-loop-k
invariant-loop-k l =
    string_bytes l.text ≡ string_bytes l.initial.text ++ flat_map (memory_line l.image)
    (enumerate_from l.first (take l.k l.words))
