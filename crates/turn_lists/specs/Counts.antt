-- How many lists of turns there are, as far as numbers of lists go.
use Rattle.std.specs.Prelude.{ℕ, ◌+◌, ◌*◌, ◌^◌, min, List, [], ◌∷◌, length, map, Option, Some, if◌then◌else◌}
use Rattle.std.specs.List.{range_with_len}
use Rattle.turn_lists.specs.Few.{had_last, lists_of}
use Rattle.turn_lists.specs.declared.actor.Actor.{Actor}
use Rattle.turn_lists.specs.declared.actor.Turn.{Turn}

-- how many lists of so many turns follow a turn of the last actor; 2 ^ 64 where there are more
abbrev pub many_of : (greatest : List Turn) (turns : ℕ) (last : Option Actor) → ℕ
many_of greatest turns last = min (length (lists_of greatest turns last)) (2 ^ 64)

-- for each actor, how many lists of so many turns follow a turn of it
abbrev pub row_of : (greatest : List Turn) (turns : ℕ) → List ℕ
row_of greatest turns = map (λ (g : Turn). many_of greatest turns (Some g.actor)) greatest

-- these rows, for no turn first and then for one more each
abbrev pub rows_of : (greatest : List Turn) (rows : ℕ) → List (List ℕ)
rows_of greatest rows = map (row_of greatest) (range_with_len 0 rows)

-- The lists with one turn more than those that a row counts, which follow a turn of the last actor, counted on from n.
abbrev pub counted_on : ℕ → (greatest : List Turn) (row : List ℕ) (last : Option Actor) → ℕ
counted_on n [] row last = n
counted_on n (g ∷ greatest) [] last = n
counted_on n (g ∷ greatest) (each ∷ row) last =
    counted_on (if had_last last g.actor then n else min (n + g.count * each) (2 ^ 64)) greatest row last
