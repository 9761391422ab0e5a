use Rattle.std.proofs.Common.{◌≡◌, take}
use Rattle.small_turns.specs.Acts.{single_turns}
use Rattle.small_turns.proofs.acts.single_turns.Given as goal

abbrev pub invariant-loop-act : goal.invariant-loop-act
invariant-loop-act l = l.turns ≡ single_turns (take l.act-index l.acts)
