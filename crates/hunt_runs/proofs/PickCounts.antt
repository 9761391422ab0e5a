-- Counts of picks, put one after the other.
use Rattle.std.proofs.Common.{◌≡◌, ◌∙◌, sym, ap, ℕ, ◌+◌, List, [], ◌∷◌, ◌++◌, append_assoc}
use Rattle.std.specs.Prelude.{map}
use Rattle.std.specs.List.{range_with_len}
use Rattle.std.proofs.lemmas.List.{map-append}
use Rattle.rtr_types.proofs.Ranges.{map_range_more}
use Rattle.turn_lists.specs.declared.actor.Actor.{Actor}
use Rattle.turn_lists.specs.declared.actor.Turn.{Turn}
use Rattle.hunt_runs.specs.Counted.{unpicked}

pub puts_more : (make : ℕ → Actor) (n : ℕ) (front picks after : List Turn) →
    picks ≡ front ++ map unpicked (map make (range_with_len 0 n)) → after ≡ picks ++ unpicked (make n) ∷ [] →
    after ≡ front ++ map unpicked (map make (range_with_len 0 (n + 1)))
puts_more make n front picks after is more =
    more ∙ ap (λ (l : List Turn). l ++ unpicked (make n) ∷ []) is
    ∙ append_assoc front (map unpicked (map make (range_with_len 0 n))) (unpicked (make n) ∷ [])
    ∙ ap (λ (l : List Turn). front ++ l)
    (sym (ap (λ (l : List Actor). map unpicked l) (map_range_more make n)
    ∙ map-append unpicked (map make (range_with_len 0 n)) (make n ∷ [])))
