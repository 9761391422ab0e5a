use Rattle.std.proofs.Common.{◌≡◌, ◌++◌, length, map, string_bytes}
use Rattle.std.specs.Option.{option_map}
use Rattle.hunt_words.specs.Given.{given_in}
use Rattle.hunt_words.specs.Seen.{all_seen}
use Rattle.hunt_words.proofs.given.given_in.Given as goal

-- with what the words that are left give, these are all options
abbrev pub invariant-loop-word : goal.invariant-loop-word
invariant-loop-word l =
    option_map (λ more. all_seen l.given.items ++ more) (given_in l.verb (map string_bytes l.left))
    ≡ given_in l.verb (map string_bytes l.fn.words)

abbrev pub decreases-loop-word : goal.decreases-loop-word
decreases-loop-word l = length l.left
