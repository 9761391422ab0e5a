-- The edges into one core as version 2 has them: by the target's count, and at one count by the source core.
use Rattle.std.specs.Prelude.{◌≡◌, ◌^◌, ℕ, ◌<◌, ◌≤◌, ◌⊎◌, List, [], ◌∷◌, ◌++◌, map, Option, None, Some, slice_index}
use Rattle.std.specs.Prelude.{slice_index_or, slice_get, drop, length, false, Bool, ◌&&◌, ◌||◌, not, ◌==◌, nat_lt}
use Rattle.std.specs.Prelude.{nat_le, if◌then◌else◌}
use Rattle.std.specs.List.{filter, flat_map, range_with_len}
use Rattle.rtr_types.specs.declared.TheConstants.{CORES_MAX}
use Rattle.rtr_types.specs.Pairs.{IsPair, pair_count, pair_place, source_at, target_at}
use Rattle.log_codec.specs.declared.incoming.Incoming.{Incoming}
use Rattle.race_log.specs.Validity.{IsListed}

-- ---- by target

-- the edge from a core with these counts, the source's first
abbrev pub incoming : ℕ → ℕ × ℕ → Incoming
incoming source counts = record { source = source; counts = counts }

-- the edges from a core into the target, of which none is the target's own
abbrev pub edges_out_of : (cores : ℕ) (reduced : List (List (ℕ × ℕ))) (target source : ℕ) → List (ℕ × ℕ)
edges_out_of cores reduced target source =
    if source == target then [] else slice_index_or reduced (pair_place cores source target) []

-- the target's count is lower, or the same and the source core is lower
abbrev pub is_earlier : Incoming → Incoming → Bool
is_earlier d e = nat_lt d.counts.1 e.counts.1 || (d.counts.1 == e.counts.1 && nat_lt d.source e.source)

-- an edge put among edges in order
abbrev pub put_in_order : Incoming → List Incoming → List Incoming
put_in_order e [] = e ∷ []
put_in_order e (d ∷ edges) = if is_earlier d e then d ∷ put_in_order e edges else e ∷ d ∷ edges

abbrev pub in_order : List Incoming → List Incoming
in_order [] = []
in_order (e ∷ edges) = put_in_order e (in_order edges)

-- the edges of several cores, in order
unfoldable pub merged_edges : (cores : ℕ) → (ℕ → List (ℕ × ℕ)) → List Incoming
merged_edges cores lists = in_order (flat_map (λ source. map (incoming source) (lists source)) (range_with_len 0 cores))

-- all edges into the target, in order
abbrev pub incoming_edges : (cores : ℕ) (reduced : List (List (ℕ × ℕ))) (target : ℕ) → List Incoming
incoming_edges cores reduced target = merged_edges cores (edges_out_of cores reduced target)

-- the cores into which edges can lead: one core alone has none
abbrev pub target_count : ℕ → ℕ
target_count cores = if nat_lt 1 cores then cores else 0

-- ---- by pair

-- the edges that come from this core
abbrev pub from_source : ℕ → List Incoming → List (ℕ × ℕ)
from_source source edges = map (λ e. e.counts) (filter (λ e. e.source == source) edges)

-- the edges of each pair, from those into each target
abbrev pub pairs_of : (cores : ℕ) → List (List Incoming) → List (List (ℕ × ℕ))
pairs_of cores into =
    map (λ place. from_source (source_at cores place) (slice_index_or into (target_at cores place) []))
    (range_with_len 0 (pair_count cores))

-- ---- in turn, after the edges before it, newest first

abbrev pub remember : List Incoming → Incoming → List Incoming
remember before e = e ∷ before

-- the target's count at the edge before; 0 where there is none
abbrev pub last_target : List Incoming → ℕ
last_target [] = 0
last_target (d ∷ before) = d.counts.1

-- the source's count at the last edge from this core; 0 where there is none
abbrev pub last_source : ℕ → List Incoming → ℕ
last_source source [] = 0
last_source source (d ∷ before) = if d.source == source then d.counts.0 else last_source source before

-- the target's count rises from the edge before, or stays and the source core rises
abbrev pub Follows : List Incoming → Incoming → Type 0
Follows [] e = 1 ≤ e.counts.1
Follows (d ∷ before) e = (d.counts.1 < e.counts.1) ⊎ ((d.counts.1 ≡ e.counts.1) × (d.source < e.source))

-- an edge is in order after those before it, and its source's count rises
pub record IncomingRises (before : List Incoming) (e : Incoming) : Type 0 where
  pub follows : Follows before e
  pub source : last_source e.source before < e.counts.0

-- it comes from another core, and the two cores reach its counts
pub record IncomingStands (totals : List ℕ) (target : ℕ) (before : List Incoming) (e : Incoming) : Type 0 where
  pub pair : IsPair (length totals) e.source target
  pub rises : IncomingRises before e
  pub source_most : e.counts.0 ≤ slice_index totals e.source
  pub target_most : e.counts.1 ≤ slice_index totals target

-- ---- the same as tests

abbrev pub follows : List Incoming → Incoming → Bool
follows [] e = nat_le 1 e.counts.1
follows (d ∷ before) e = is_earlier d e

abbrev pub is_pair : ℕ → ℕ → ℕ → Bool
is_pair cores source target = (nat_lt source cores && nat_lt target cores) && not (source == target)

abbrev pub incoming_stands : List ℕ → ℕ → List Incoming → Incoming → Bool
incoming_stands totals target before e =
    is_pair (length totals) e.source target
    && ((follows before e && nat_lt (last_source e.source before) e.counts.0)
    && (nat_le e.counts.0 (slice_index totals e.source) && nat_le e.counts.1 (slice_index totals target)))

-- ---- as the code keeps them

-- the newest edge
abbrev pub newest : List Incoming → Option Incoming
newest [] = None
newest (d ∷ before) = Some d

-- what is kept of the edges before: the newest one, and the last count of each source core
pub record Keeps (last : Option Incoming) (counts : List ℕ) (before : List Incoming) : Type 0 where
  pub newest_is : last ≡ newest before
  pub count_is : (source : ℕ) → source < CORES_MAX → slice_index counts source ≡ last_source source before
  pub places : length counts ≡ CORES_MAX

-- the target's count of an edge, where there is one
abbrev pub target_of : Option Incoming → ℕ
target_of None = 0
target_of (Some d) = d.counts.1

-- an edge is in order after another, or is the first
abbrev pub comes_after : Option Incoming → Incoming → Bool
comes_after None e = nat_le 1 e.counts.1
comes_after (Some d) e = is_earlier d e

-- the lists of the pairs, with these edges into a target at their ends
abbrev pub with_into : (cores : ℕ) → List (List (ℕ × ℕ)) → (target : ℕ) → List Incoming → List (List (ℕ × ℕ))
with_into cores lists target edges =
    map (λ place. slice_index_or lists place []
    ++ (if target_at cores place == target then from_source (source_at cores place) edges else []))
    (range_with_len 0 (pair_count cores))

-- the target is one of these cores, of which there are no more than there may be, and each of their pairs has its list
pub record TakesInto (totals : List ℕ) (core : ℕ) (found : List (List (ℕ × ℕ))) : Type 0 where
  pub few : length totals ≤ CORES_MAX
  pub target : core < length totals
  pub lists : length found ≡ pair_count (length totals)

-- the edges that are left of each core's, from these places on
abbrev pub left : (cores : ℕ) (reduced : List (List (ℕ × ℕ))) (target : ℕ) (next : List ℕ) → ℕ → List (ℕ × ℕ)
left cores reduced target next source = drop (slice_index next source) (edges_out_of cores reduced target source)

-- an edge is the next of its core, and no core's next one is earlier
pub record IsFirst (cores : ℕ) (lists : ℕ → List (ℕ × ℕ)) (e : Incoming) : Type 0 where
  pub inside : e.source < cores
  pub own : slice_get (lists e.source) 0 ≡ Some e.counts
  pub first : (source : ℕ) (counts : ℕ × ℕ) → source < cores → slice_get (lists source) 0 ≡ Some counts →
      is_earlier (incoming source counts) e ≡ false

-- ---- what can be written

-- the edges of each pair of so many cores, which can be spelled by pair and by target
pub record IsLog (cores : ℕ) (reduced : List (List (ℕ × ℕ))) : Type 0 where
  pub few : cores ≤ CORES_MAX
  pub pairs : length reduced ≡ pair_count cores
  pub listed : (place : ℕ) → place < length reduced → IsListed (slice_index_or reduced place [])
  pub into : (target : ℕ) → target < cores → length (incoming_edges cores reduced target) < 2 ^ 32
