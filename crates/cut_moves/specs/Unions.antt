-- The union and the intersection of two cuts.
use Rattle.std.specs.Prelude.{Bool, ℕ, false, map, max, min, true}
use Rattle.std.specs.List.{range_with_len}
use Rattle.rtr_types.specs.declared.TheConstants.{CORES_MAX}
use Rattle.rtr_types.specs.declared.cut.Cut.{Cut}
use Rattle.rtr_types.specs.declared.pairs.Which.{Which}
use Rattle.race_log.specs.declared.recording.Recording.{Recording}
use Rattle.cut_replay.specs.ClosedCuts.{count_in, IsClosed, IsContained, IsCutOf}

-- of each core what its two counts come to
abbrev pub merged_by : (ℕ → ℕ → ℕ) → Cut → Cut → Cut
merged_by to cut other = record {
  cores = cut.cores;
  counts = map (λ core. to (count_in cut core) (count_in other core)) (range_with_len 0 CORES_MAX);
}

-- of each core the greater of the two counts
abbrev pub union_of : Cut → Cut → Cut
union_of cut other = merged_by max cut other

-- of each core the lesser of the two counts
abbrev pub intersection_of : Cut → Cut → Cut
intersection_of cut other = merged_by min cut other

-- the greater of two counts, or the lesser
abbrev pub chosen : Bool → ℕ → ℕ → ℕ
chosen true x y = max x y
chosen false x y = min x y

-- ---- laws

-- it contains both, and is contained in every cut that does
pub record IsUnion (cut other both : Cut) : Type 0 where
  pub first : IsContained cut both
  pub second : IsContained other both
  pub least : (cores : Cut) → IsContained cut cores → IsContained other cores → IsContained both cores

-- it is contained in both, and contains every cut that is
pub record IsIntersection (cut other common : Cut) : Type 0 where
  pub first : IsContained common cut
  pub second : IsContained common other
  pub greatest : (cores : Cut) → IsContained cores cut → IsContained cores other → IsContained cores common

abbrev pub UnionLeastLaw : Type 0
UnionLeastLaw = (r : Recording) (cut other : Cut) → IsCutOf r cut → IsCutOf r other →
    IsUnion cut other (union_of cut other)

abbrev pub IntersectionGreatestLaw : Type 0
IntersectionGreatestLaw = (r : Recording) (cut other : Cut) → IsCutOf r cut → IsCutOf r other →
    IsIntersection cut other (intersection_of cut other)

abbrev pub UnionClosedLaw : Type 0
UnionClosedLaw = (which : Which) (r : Recording) (cut other : Cut) → IsClosed which r cut → IsClosed which r other →
    IsClosed which r (union_of cut other)

abbrev pub IntersectionClosedLaw : Type 0
IntersectionClosedLaw = (which : Which) (r : Recording) (cut other : Cut) → IsClosed which r cut →
    IsClosed which r other → IsClosed which r (intersection_of cut other)
