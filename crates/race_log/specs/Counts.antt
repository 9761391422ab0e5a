-- How many edges a log has.
use Rattle.std.specs.Prelude.{ℕ, List, length, sum_by}
use Rattle.rtr_types.specs.declared.pairs.Which.{Which}
use Rattle.rtr_types.specs.declared.pairs.Which.TheVariants.{Reduced, Regulated}
use Rattle.stride_vector.specs.declared.StrideVector.{StrideVector}
use Rattle.race_log.specs.declared.recording.Recording.{Recording}

-- the positions of vectors, each of which is an edge
abbrev pub position_count : List StrideVector → ℕ
position_count vectors = sum_by (λ v. v.n) vectors

-- the edges of all pairs
abbrev pub edge_count_of : Which → Recording → ℕ
edge_count_of Reduced r = sum_by (λ edges. length edges) r.reduced
edge_count_of Regulated r = sum_by position_count r.regulated
