-- The vectors of a recording's regulated log, one after the other, and their edges.
use Rattle.std.specs.Prelude.{◌≡◌, ℕ, suc, List, ◌++◌, map, take, drop, slice_index_or}
use Rattle.std.specs.List.{flat_map}
use Rattle.rtr_types.specs.declared.instr.Edge.{Edge}
use Rattle.rtr_types.specs.declared.pairs.Which.TheVariants.{Regulated}
use Rattle.stride_vector.specs.declared.StrideVector.{StrideVector}
use Rattle.stride_vector.specs.Vectors.{edges_of, position_of}
use Rattle.race_log.specs.declared.recording.Recording.{Recording}
use Rattle.race_log.specs.Sources.{edge_between, log_edges}
use Rattle.part_lists.specs.Leading.{led_at, led_of}
use Rattle.vector_reduce.specs.declared.pair_vector.PairVector.{PairVector}

-- the edge at a position, counted from 0
abbrev pub edge_at : PairVector → ℕ → Edge
edge_at v k = edge_between v.from v.to (position_of v.vector k)

-- the edges of a vector, in the order of its positions
abbrev pub edges_in : PairVector → List Edge
edges_in v = map (edge_between v.from v.to) (edges_of v.vector)

-- those of several vectors
abbrev pub edges_of_all : List PairVector → List Edge
edges_of_all vectors = flat_map edges_in vectors

-- a vector between two cores
abbrev pub led_between : (from to : ℕ) → StrideVector → PairVector
led_between from to v = record { from = from; to = to; vector = v }

-- the vectors of the pair at a place
abbrev pub pair_vectors : Recording → ℕ → List PairVector
pair_vectors r place = led_at led_between r.params.cores r.regulated place

-- all vectors of the regulated log, by pair, and within a pair in their order
unfoldable pub vectors_of : Recording → List PairVector
vectors_of r = led_of led_between r.params.cores r.regulated

abbrev pub regulated_edges : Recording → List Edge
regulated_edges r = log_edges Regulated r

-- ---- a list of vectors

-- what stands past the end
abbrev pub no_vector : PairVector
no_vector = record { from = 0; to = 0; vector = record { n = 0; a0 = 0; b0 = 0; sa = 0; sb = 0 } }

-- the vector with a number, counted from 0
abbrev pub vector_at : List PairVector → ℕ → PairVector
vector_at vectors k = slice_index_or vectors k no_vector

-- all but that one
abbrev pub others_of : List PairVector → ℕ → List PairVector
others_of vectors k = take k vectors ++ drop (suc k) vectors

-- the edges of a recording's vectors are those of its regulated log
abbrev pub VectorsAreTheLog : Type 0
VectorsAreTheLog = (r : Recording) → edges_of_all (vectors_of r) ≡ regulated_edges r
