use Rattle.std.proofs.Common.{◌≡◌, drop}
use Rattle.hunt_words.specs.Given.{text_at}
use Rattle.hunt_words.specs.Seen.{all_seen}
use Rattle.hunt_words.proofs.given.text_at.Given as goal

-- the option isn't among those before
abbrev pub invariant-loop-k : goal.invariant-loop-k
invariant-loop-k l = text_at l.name (all_seen (drop l.k l.given)) ≡ text_at l.name (all_seen l.given)
