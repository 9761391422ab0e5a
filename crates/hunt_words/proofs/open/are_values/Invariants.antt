use Rattle.std.proofs.Common.{◌≡◌, drop}
use Rattle.std.specs.List.{list_all}
use Rattle.hunt_words.specs.Open.{is_value_or, most_words, text_of}
use Rattle.hunt_words.specs.Seen.{all_seen}
use Rattle.hunt_words.proofs.open.are_values.Given as goal

-- the options before have values
abbrev pub invariant-loop-k : goal.invariant-loop-k
invariant-loop-k l =
    list_all (λ name. is_value_or l.cores (most_words (all_seen l.given)) name (text_of name (all_seen l.given)))
    (drop l.k l.names)
    ≡ list_all (λ name. is_value_or l.cores (most_words (all_seen l.given)) name (text_of name (all_seen l.given)))
    l.names
