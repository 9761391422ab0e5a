use Rattle.std.proofs.Common.{◌≡◌, ◌+◌, ◌-◌}
use Rattle.std.specs.List.{list_any, range_with_len}
use Rattle.rtr_types.specs.declared.TheConstants.{CORES_MAX}
use Rattle.hunt_words.specs.Open.{has_machine, suits}
use Rattle.hunt_words.specs.Seen.{all_seen}
use Rattle.hunt_words.proofs.open.has_machine.Given as goal

-- no machine with fewer cores suits
abbrev pub invariant-loop-below : goal.invariant-loop-below
invariant-loop-below l =
    list_any (suits l.verb (all_seen l.given)) (range_with_len (l.below + 1) (CORES_MAX - l.below))
    ≡ has_machine l.verb (all_seen l.given)
