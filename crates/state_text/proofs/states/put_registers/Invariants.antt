-- the text of the registers so far
use Rattle.std.proofs.Common.{◌≡◌, ◌-◌, ◌++◌, string_bytes}
use Rattle.std.specs.List.{flat_map, range_with_len}
use Rattle.rv_core.specs.States.{register}
use Rattle.state_text.specs.States.{register_line}
use Rattle.state_text.proofs.states.put_registers.Given as goal

abbrev pub invariant-loop-k : goal.invariant-loop-k
invariant-loop-k l =
    string_bytes l.text ≡ string_bytes l.initial.text ++ flat_map (λ k. register_line l.number k (register l.core k))
    (range_with_len 1 (l.k - 1))
