-- The regulated log: each pair's greedy vectors, by what each core knew when it retired.
use Rattle.std.specs.Prelude.{◌≡◌, ◌≢◌, ℕ, ◌-◌, ◌<◌, ◌≤◌, List, [], Bool, true, false, nat_le, map, length}
use Rattle.std.specs.Prelude.{slice_index_or}
use Rattle.std.specs.List.{range_with_len}
use Rattle.rtr_types.specs.Pairs.{IsPair, pair_count, pair_place, source_at, target_at}
use Rattle.rtr_types.specs.declared.instr.Edge.{Edge}
use Rattle.stride_vector.specs.declared.StrideVector.{StrideVector}
use Rattle.stride_vector.specs.Vectors.{IsVector, last_of}
use Rattle.know_history.specs.Notes.{Notes, known_at, noted_count}
use Rattle.edge_regulate.specs.Greedy.{Knows, greedy, opened}

-- how many instructions of core `of` are known at the core's instruction with this count
abbrev pub Knowledge : Type 0
Knowledge = (core count of : ℕ) → ℕ

-- what is known of the one core at the other
abbrev pub knows_by : Knowledge → (from to : ℕ) → Knows
knows_by known from to a b = nat_le a (known to b from)

-- the vectors of the edges of the pair at a place
abbrev pub vectors_at : ℕ → Knowledge → List (List (ℕ × ℕ)) → ℕ → List StrideVector
vectors_at cores known edges place =
    greedy (knows_by known (source_at cores place) (target_at cores place)) (slice_index_or edges place [])

-- the vectors of each pair's edges
unfoldable pub regulated : (cores : ℕ) → Knowledge → List (List (ℕ × ℕ)) → List (List StrideVector)
regulated cores known edges = map (vectors_at cores known edges) (range_with_len 0 (pair_count cores))

-- ---- while the run goes on

-- the edges are of different pairs
abbrev pub ArePairsApart : ℕ → List Edge → Type 0
ArePairsApart cores edges = (i j : ℕ) (d : Edge) → i < j → j < length edges →
    pair_place cores (slice_index_or edges i d).from.core (slice_index_or edges i d).to.core ≢ pair_place cores
    (slice_index_or edges j d).from.core (slice_index_or edges j d).to.core

-- the number of cores, each pair's vectors so far, and whether the pair has room for one more
pub record Regulation : Type 0 where
  pub cores : ℕ
  pub vectors : List (List StrideVector)
  pub ready : List Bool

-- each pair has room for one more vector
abbrev pub AreReady : Regulation → Type 0
AreReady s = (pair : ℕ) → pair < pair_count s.cores → slice_index_or s.ready pair false ≡ true

-- the pair's vectors and whether it has room are as before
pub record IsSameAt (place : ℕ) (s t : Regulation) : Type 0 where
  pub vectors : slice_index_or t.vectors place [] ≡ slice_index_or s.vectors place []
  pub ready : slice_index_or t.ready place false ≡ slice_index_or s.ready place false

-- what was noted of other cores is known so, whatever is noted later
abbrev pub Extends : Notes → Knowledge → Type 0
Extends notes known = (core count of : ℕ) → of ≢ core → count ≤ noted_count notes core → known core count of
    ≡ known_at notes core count of

-- the vectors so far are the greedy ones of the edges told, whatever is noted later
pub record IsRegulation (notes : Notes) (edges : List (List (ℕ × ℕ))) (s : Regulation) : Type 0 where
  pub each : length edges ≡ pair_count s.cores
  pub vectors : (known : Knowledge) → Extends notes known → s.vectors ≡ regulated s.cores known edges

-- the count of the target at which the vectors end, or 0
abbrev pub end_target : List StrideVector → ℕ
end_target vectors = (last_of (slice_index_or vectors (length vectors - 1) (opened (0, 0)))).1

-- the edge can be told next: its target was noted, and comes after the pair's last position
pub record IsNextEdge (notes : Notes) (s : Regulation) (e : Edge) : Type 0 where
  pub pair : IsPair s.cores e.from.core e.to.core
  pub some : 1 ≤ e.from.count
  pub later : end_target (slice_index_or s.vectors (pair_place s.cores e.from.core e.to.core) []) < e.to.count
  pub noted : e.to.count ≤ noted_count notes e.to.core

-- a vector that may go on
pub record IsGrowing (v : StrideVector) : Type 0 where
  pub vector : IsVector v
  pub some_source : 1 ≤ v.a0
  pub some_target : 1 ≤ v.b0
