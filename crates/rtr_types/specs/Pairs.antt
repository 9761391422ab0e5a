-- The ordered pairs of different cores, by source and then by target, and their places.
use Rattle.std.specs.Prelude.{ℕ, ◌+◌, ◌-◌, ◌*◌, ◌/◌, ◌%◌, ◌<◌, ◌≡◌, ◌≢◌, nat_lt, if◌then◌else◌}

-- how many pairs there are
abbrev pub pair_count : ℕ → ℕ
pair_count cores = cores * (cores - 1)

-- the place of a pair: behind all pairs of the sources before, and behind the own source's pairs
-- with a target before, of which the source itself is none
abbrev pub pair_place : ℕ → ℕ → ℕ → ℕ
pair_place cores from to = from * (cores - 1) + (if nat_lt to from then to else to - 1)

-- the source of the pair at a place
abbrev pub source_at : ℕ → ℕ → ℕ
source_at cores place = place / (cores - 1)

-- the target of the pair at a place
abbrev pub target_at : ℕ → ℕ → ℕ
target_at cores place =
    if nat_lt (place % (cores - 1)) (place / (cores - 1)) then place % (cores - 1) else place % (cores - 1) + 1

-- two different cores
pub record IsPair (cores from to : ℕ) : Type 0 where
  pub source : from < cores
  pub target : to < cores
  pub differ : from ≢ to

-- each pair has a place, and is the pair at it
abbrev pub PairsPlaced : Type 0
PairsPlaced = (cores from to : ℕ) → IsPair cores from to →
    (pair_place cores from to < pair_count cores)
    × (source_at cores (pair_place cores from to) ≡ from)
    × (target_at cores (pair_place cores from to) ≡ to)

-- each place is that of a pair
abbrev pub PlacesPaired : Type 0
PlacesPaired = (cores place : ℕ) → place < pair_count cores →
    IsPair cores (source_at cores place) (target_at cores place)
    × (pair_place cores (source_at cores place) (target_at cores place) ≡ place)

-- the pairs of a source stand before those of a later one
abbrev pub SourcesRise : Type 0
SourcesRise = (cores from to later other : ℕ) → IsPair cores from to → IsPair cores later other → from < later
    → pair_place cores from to < pair_place cores later other

-- among a source's pairs those with a target before stand before
abbrev pub TargetsRise : Type 0
TargetsRise = (cores from to later : ℕ) → IsPair cores from to → IsPair cores from later → to < later
    → pair_place cores from to < pair_place cores from later
