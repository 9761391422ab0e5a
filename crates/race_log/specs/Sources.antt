-- Rule: the edges of a log: log_edges, HasEdge
-- The edges of a recording's logs, and which of them lead to an instruction.
use Rattle.std.specs.Prelude.{◌≡◌, ℕ, ◌<◌, ◌≤◌, ◌↔◌, List, [], map, length, slice_index, slice_index_or}
use Rattle.std.specs.List.{Contains, flat_map, range_with_len}
use Rattle.rtr_types.specs.declared.instr.Instr.{Instr}
use Rattle.rtr_types.specs.declared.instr.Edge.{Edge}
use Rattle.rtr_types.specs.declared.pairs.Which.{Which}
use Rattle.rtr_types.specs.declared.pairs.Which.TheVariants.{Reduced, Regulated}
use Rattle.rtr_types.specs.Pairs.{IsPair, pair_count, pair_place, source_at, target_at}
use Rattle.stride_vector.specs.declared.StrideVector.{StrideVector}
use Rattle.stride_vector.specs.Vectors.{IsVector, edges_of, last_of}
use Rattle.race_log.specs.declared.recording.Recording.{Recording}
use Rattle.race_log.specs.Counts.{edge_count_of}
use Rattle.race_log.specs.Validity.{Valid}

-- the edges of the pair at a place, each a count of the source and one of the target
abbrev pub edges_of_pair : Which → Recording → ℕ → List (ℕ × ℕ)
edges_of_pair Reduced r place = slice_index_or r.reduced place []
edges_of_pair Regulated r place = flat_map edges_of (slice_index_or r.regulated place [])

-- the edge between two cores at these counts
abbrev pub edge_between : ℕ → ℕ → ℕ × ℕ → Edge
edge_between from to counts =
    record { from = record { core = from; count = counts.0 }; to = record { core = to; count = counts.1 } }

-- the same with the cores of the edges
abbrev pub edges_at : Which → Recording → ℕ → List Edge
edges_at which r place =
    map (edge_between (source_at r.params.cores place) (target_at r.params.cores place)) (edges_of_pair which r place)

-- all edges of a log, pair by pair
unfoldable pub log_edges : Which → Recording → List Edge
log_edges which r = flat_map (edges_at which r) (range_with_len 0 (pair_count r.params.cores))

-- the log has an edge from one instruction to the other
abbrev pub HasEdge : Which → Recording → Instr → Instr → Type 0
HasEdge which r from to = Contains (log_edges which r) (record { from = from; to = to })

-- an edge's two instructions are of different cores, and within their totals
pub record EdgeWithin (r : Recording) (from to : Instr) : Type 0 where
  pub pair : IsPair r.params.cores from.core to.core
  pub some_source : 1 ≤ from.count
  pub some_target : 1 ≤ to.count
  pub source_most : from.count ≤ slice_index r.totals from.core
  pub target_most : to.count ≤ slice_index r.totals to.core

-- a log's edges are those of its pairs
abbrev pub EdgesArePaired : Type 0
EdgesArePaired = (which : Which) (r : Recording) (from to : Instr) →
    HasEdge which r from to
    ↔ (IsPair r.params.cores from.core to.core
    × Contains (edges_of_pair which r (pair_place r.params.cores from.core to.core)) (from.count, to.count))

-- they lie within the totals
abbrev pub EdgesWithin : Type 0
EdgesWithin = (which : Which) (r : Recording) (from to : Instr) → Valid r → HasEdge which r from to →
    EdgeWithin r from to

-- at most one edge leads from a core to an instruction
abbrev pub OneSource : Type 0
OneSource = (which : Which) (r : Recording) (from other to : Instr) → Valid r → HasEdge which r from to →
    HasEdge which r other to → from.core ≡ other.core → from ≡ other

-- the count of a log's edges is the length of their list
abbrev pub EdgesCounted : Type 0
EdgesCounted = (which : Which) (r : Recording) → Valid r → length (log_edges which r) ≡ edge_count_of which r

-- vectors each of which begins, at the target, above the end of the one before it
pub record AreApart (vectors : List StrideVector) : Type 0 where
  pub each : (k : ℕ) (d : StrideVector) → k < length vectors → IsVector (slice_index_or vectors k d)
  pub apart : (i j : ℕ) (d : StrideVector) → i < j → j < length vectors →
      (last_of (slice_index_or vectors i d)).1 < (slice_index_or vectors j d).b0

-- the edges before the place, and no others, lead to lower counts than this one
pub record IsFrom (edges : List (ℕ × ℕ)) (target place : ℕ) : Type 0 where
  pub most : place ≤ length edges
  pub lower : (k : ℕ) → k < place → (slice_index_or edges k (0, 0)).1 < target
  pub others : (k : ℕ) → place ≤ k → k < length edges → target ≤ (slice_index_or edges k (0, 0)).1
