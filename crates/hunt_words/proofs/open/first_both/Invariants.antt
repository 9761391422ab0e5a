use Rattle.std.proofs.Common.{◌≡◌, ◌++◌, ◌∷◌, [], drop}
use Rattle.std.specs.Prelude.{find}
use Rattle.hunt_words.specs.Open.{are_both, one}
use Rattle.hunt_words.specs.Seen.{all_seen}
use Rattle.hunt_words.proofs.open.first_both.Given as goal

-- none of the pairs before is given
abbrev pub invariant-loop-k : goal.invariant-loop-k
invariant-loop-k l =
    find (are_both (all_seen l.given ++ one l.name [] ∷ [])) (drop l.k l.pairs)
    ≡ find (are_both (all_seen l.given ++ one l.name [] ∷ [])) l.pairs
