-- the text of the cores so far
use Rattle.std.proofs.Common.{◌≡◌, ◌++◌, take, string_bytes}
use Rattle.std.specs.List.{flat_map, enumerate_from}
use Rattle.state_text.specs.States.{core_lines}
use Rattle.state_text.proofs.states.put_cores.Given as goal

abbrev pub invariant-loop-number : goal.invariant-loop-number
invariant-loop-number l =
    string_bytes l.text ≡ string_bytes l.initial.text ++ flat_map (core_lines l.image)
    (enumerate_from 0 (take l.number l.cores))
