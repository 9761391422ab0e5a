use Rattle.std.proofs.Common.{◌≡◌, drop}
use Rattle.hunt_words.specs.Given.{are_each_once}
use Rattle.hunt_words.specs.Seen.{all_seen}
use Rattle.hunt_words.proofs.given.are_each_once.Given as goal

-- none of the options before is given twice
abbrev pub invariant-loop-k : goal.invariant-loop-k
invariant-loop-k l = are_each_once (all_seen (drop l.k l.given)) ≡ are_each_once (all_seen l.given)
