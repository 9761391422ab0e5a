-- What leads between the cores of each pair, by the entries of the pair's list.
use Rattle.std.specs.Prelude.{ℕ, List, [], map, slice_index_or}
use Rattle.std.specs.List.{flat_map, range_with_len}
use Rattle.rtr_types.specs.Pairs.{pair_count, source_at, target_at}

-- that of the pair at a place
abbrev pub led_at : {T L : Type 0} → ((from to : ℕ) → T → L) → ℕ → List (List T) → ℕ → List L
led_at between cores lists place =
    map (between (source_at cores place) (target_at cores place)) (slice_index_or lists place [])

-- that of all pairs
abbrev pub led_of : {T L : Type 0} → ((from to : ℕ) → T → L) → ℕ → List (List T) → List L
led_of between cores lists = flat_map (led_at between cores lists) (range_with_len 0 (pair_count cores))
