-- Rule: which recordings are valid: Valid
-- Which recordings are valid.
use Rattle.std.specs.Prelude.{◌≡◌, ℕ, ◌*◌, ◌%◌, ◌<◌, ◌≤◌, ◌^◌, List, [], length, slice_index, slice_index_or, All, Bool}
use Rattle.std.specs.Prelude.{◌&&◌, nat_le, nat_lt, nat_eq, if◌then◌else◌}
use Rattle.rtr_types.specs.declared.TheConstants.{CORES_MAX}
use Rattle.rtr_types.specs.declared.params.Params.{Params}
use Rattle.rtr_types.specs.declared.params.TheConstants.{INSTRUCTIONS_MAX, LIMIT_MAX, WORDS_MIN, WORDS_MAX}
use Rattle.rtr_types.specs.Pairs.{pair_count, source_at, target_at}
use Rattle.rtr_types.specs.Parameters.{Fits}
use Rattle.stride_vector.specs.declared.StrideVector.{StrideVector}
use Rattle.stride_vector.specs.Vectors.{last_of}
use Rattle.race_log.specs.declared.recording.Recording.{Recording}
use Rattle.rtr_types.specs.PairEdges.{AreEdges, EdgeRises}
use Rattle.rtr_types.specs.Turns.{StandInTurn, stand_in_turn, stay, follow, count_up}

-- the totals of the source and of the target of the pair at a place
abbrev pub bound_at : List ℕ → ℕ → ℕ × ℕ
bound_at totals place =
    (slice_index totals (source_at (length totals) place), slice_index totals (target_at (length totals) place))

-- where a vector ends
abbrev pub end_of : ℕ × ℕ → StrideVector → ℕ × ℕ
end_of last v = last_of v

-- a vector after one that ended at the last position, with counts that the two cores reach
pub record VectorStands (most last : ℕ × ℕ) (v : StrideVector) : Type 0 where
  pub some : 1 ≤ v.n
  pub source_rises : last.0 < v.a0
  pub target_rises : last.1 < v.b0
  pub source_stride : 1 < v.n → 1 ≤ v.sa
  pub target_stride : 1 < v.n → 1 ≤ v.sb
  pub no_source_stride : v.n ≤ 1 → v.sa ≡ 0
  pub no_target_stride : v.n ≤ 1 → v.sb ≡ 0
  pub source_most : (last_of v).0 ≤ most.0
  pub target_most : (last_of v).1 ≤ most.1

-- the vectors of a pair whose cores have these totals
abbrev pub AreVectors : ℕ × ℕ → List StrideVector → Type 0
AreVectors most vectors = StandInTurn (VectorStands most) end_of (0, 0) vectors

-- the parameters lie in their ranges, and the other parts fit them and one another
pub record Valid (r : Recording) : Type 0 where
  pub params : Fits r.params
  pub image : length r.image ≤ 4 * r.params.words
  pub each_core : length r.totals ≡ r.params.cores
  pub totals : All (λ t. t ≤ r.params.limit) r.totals
  pub each_reduced : length r.reduced ≡ pair_count r.params.cores
  pub reduced : (place : ℕ) → place < pair_count r.params.cores →
      AreEdges (bound_at r.totals place) (slice_index_or r.reduced place [])
  pub each_regulated : length r.regulated ≡ pair_count r.params.cores
  pub regulated : (place : ℕ) → place < pair_count r.params.cores →
      AreVectors (bound_at r.totals place) (slice_index_or r.regulated place [])

-- ---- the same as tests

abbrev pub has_blocks : Params → Bool
has_blocks p = (nat_le WORDS_MIN p.words && nat_le p.words WORDS_MAX) && nat_eq (p.words % 4) 0

abbrev pub fits_run : Params → Bool
fits_run p =
    (nat_le 1 p.cores && nat_le p.cores CORES_MAX)
    && (((nat_le 1 p.limit && nat_le p.limit LIMIT_MAX) && nat_le (p.cores * p.limit) INSTRUCTIONS_MAX)
    && has_blocks p)

abbrev pub edge_stands : ℕ × ℕ → ℕ × ℕ → ℕ × ℕ → Bool
edge_stands most last e = (nat_lt last.0 e.0 && nat_lt last.1 e.1) && (nat_le e.0 most.0 && nat_le e.1 most.1)

abbrev pub are_edges : ℕ × ℕ → List (ℕ × ℕ) → Bool
are_edges most edges = stand_in_turn (edge_stands most) follow (0, 0) edges

-- strides stand between positions alone
abbrev pub strides_stand : StrideVector → Bool
strides_stand v = if nat_lt 1 v.n then nat_le 1 v.sa && nat_le 1 v.sb else nat_eq v.sa 0 && nat_eq v.sb 0

abbrev pub vector_stands : ℕ × ℕ → ℕ × ℕ → StrideVector → Bool
vector_stands most last v =
    (nat_le 1 v.n && strides_stand v)
    && ((nat_lt last.0 v.a0 && nat_lt last.1 v.b0) && (nat_le (last_of v).0 most.0 && nat_le (last_of v).1 most.1))

abbrev pub are_vectors : ℕ × ℕ → List StrideVector → Bool
are_vectors most vectors = stand_in_turn (vector_stands most) end_of (0, 0) vectors

abbrev pub total_stands : ℕ → Unit {0} → ℕ → Bool
total_stands limit s total = nat_le total limit

abbrev pub is_valid : Recording → Bool
is_valid r =
    (fits_run r.params && nat_le (length r.image) (4 * r.params.words))
    && ((nat_eq (length r.totals) r.params.cores && stand_in_turn (total_stands r.params.limit) stay tt r.totals)
    && ((nat_eq (length r.reduced) (pair_count r.params.cores)
    && stand_in_turn (λ place es. are_edges (bound_at r.totals place) es) count_up 0 r.reduced)
    && (nat_eq (length r.regulated) (pair_count r.params.cores)
    && stand_in_turn (λ place vs. are_vectors (bound_at r.totals place) vs) count_up 0 r.regulated)))

-- edges that rise, so few that a number of 32 bits counts them
pub record IsListed (edges : List (ℕ × ℕ)) : Type 0 where
  pub few : length edges < 2 ^ 32
  pub rising : StandInTurn EdgeRises follow (0, 0) edges
