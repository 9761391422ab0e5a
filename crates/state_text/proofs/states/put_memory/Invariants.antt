-- the text of the stretches so far
use Rattle.std.proofs.Common.{◌≡◌, ◌*◌, ◌++◌, take, string_bytes}
use Rattle.std.specs.List.{flat_map, enumerate_from}
use Rattle.state_text.specs.States.{memory_line}
use Rattle.state_text.proofs.states.put_memory.Given as goal

abbrev pub invariant-loop-stretch : goal.invariant-loop-stretch
invariant-loop-stretch l =
    string_bytes l.text ≡ string_bytes l.initial.text ++ flat_map (memory_line l.image)
    (enumerate_from 0 (take (64 * l.stretch) l.words))
