-- the text of the counts so far
use Rattle.std.proofs.Common.{◌≡◌, ◌+◌, ◌*◌, ◌≤◌, ◌++◌, length, take}
use Rattle.std.specs.List.{flat_map}
use Rattle.state_text.specs.declared.faults.TheConstants.{COUNT_DIGITS_MAX}
use Rattle.state_text.specs.Exits.{count_text}
use Rattle.state_text.proofs.faults.FaultText.counts.Given as goal

abbrev pub invariant-loop-count : goal.invariant-loop-count
invariant-loop-count l =
    (l.text ≡ l.fn.self ++ flat_map count_text (take l.count-index l.count-items))
    × (length l.text ≤ length l.fn.self + (COUNT_DIGITS_MAX + 1) * l.count-index)
