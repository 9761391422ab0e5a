-- Rule: the text of the logs: logs_lines
-- The text of a recording's totals and logs. A total stands beside its core, and the list of a pair of
-- cores beside the pair's place, of which the pair's two cores are read.
use Rattle.std.specs.Prelude.{◌≡◌, ℕ, nat_lt, if◌then◌else◌, List, [], ◌++◌, length, sum_by, codes, decimal}
use Rattle.std.specs.List.{flat_map, enumerate_from}
use Rattle.rtr_types.specs.Pairs.{pair_count, source_at, target_at}
use Rattle.rtr_types.specs.declared.params.Params.{Params}
use Rattle.stride_vector.specs.declared.StrideVector.{StrideVector}
use Rattle.race_log.specs.Counts.{position_count}
use Rattle.race_log.specs.declared.recording.Recording.{Recording}
use Rattle.state_text.specs.Pieces.{line}

-- the parameters of the run, and the length of the image
abbrev pub params_line : Params → (image : ℕ) → List ℕ
params_line params image =
    line (codes "cores " ++ decimal params.cores ++ codes " limit " ++ decimal params.limit
    ++ codes " words " ++ decimal params.words ++ codes " image " ++ decimal image)

-- a core and its total
abbrev pub total_line : ℕ × ℕ → List ℕ
total_line p = line (codes "total " ++ decimal p.0 ++ codes " " ++ decimal p.1)

-- an edge, from a count of one core to a count of another
abbrev pub edge_line : (from to : ℕ) → ℕ × ℕ → List ℕ
edge_line from to edge =
    line (codes "edge " ++ decimal from ++ codes ":" ++ decimal edge.0 ++ codes " " ++ decimal to ++ codes ":"
    ++ decimal edge.1)

-- the entries of a log of the pair at a place, each by its line
abbrev pub lines_at : {X : Type 0} → (line_of : (from to : ℕ) → X → List ℕ) → (cores : ℕ) → ℕ × List X → List ℕ
lines_at line_of cores p = flat_map (line_of (source_at cores p.0) (target_at cores p.0)) p.1

-- how many items the lists of all pairs have
abbrev pub item_count : {X : Type 0} → List (List X) → ℕ
item_count lists = sum_by length lists

-- the reduced log: the number of its edges, and the edges by pair
abbrev pub reduced_lines : (cores : ℕ) → List (List (ℕ × ℕ)) → List ℕ
reduced_lines cores reduced =
    line (codes "reduced " ++ decimal (item_count reduced))
    ++ flat_map (lines_at edge_line cores) (enumerate_from 0 reduced)

-- a vector from one core to another: the number of its edges, the first of them, and where it has more
-- than one its strides
abbrev pub vector_start : (from to : ℕ) → StrideVector → List ℕ
vector_start from to v =
    codes "vector " ++ decimal from ++ codes " " ++ decimal to ++ codes " " ++ decimal v.n
    ++ codes " " ++ decimal v.a0 ++ codes " " ++ decimal v.b0

abbrev pub strides_text : StrideVector → List ℕ
strides_text v = if nat_lt 1 v.n then codes " " ++ decimal v.sa ++ codes " " ++ decimal v.sb else []

abbrev pub vector_line : (from to : ℕ) → StrideVector → List ℕ
vector_line from to v = line (vector_start from to v ++ strides_text v)

-- how many edges the vectors of all pairs have
abbrev pub vector_edges : List (List StrideVector) → ℕ
vector_edges regulated = sum_by position_count regulated

-- the regulated log: the numbers of its vectors and of their edges, and the vectors by pair
abbrev pub regulated_lines : (cores : ℕ) → List (List StrideVector) → List ℕ
regulated_lines cores regulated =
    line (codes "regulated " ++ decimal (item_count regulated) ++ codes " vectors " ++ decimal (vector_edges regulated)
    ++ codes " edges")
    ++ flat_map (lines_at vector_line cores) (enumerate_from 0 regulated)

-- the parameters, the totals by core, and the two logs
abbrev pub logs_lines : Recording → List ℕ
logs_lines r =
    params_line r.params (length r.image)
    ++ flat_map total_line (enumerate_from 0 r.totals)
    ++ reduced_lines r.params.cores r.reduced
    ++ regulated_lines r.params.cores r.regulated

-- each of the two logs has one list for each pair of cores
pub record IsByPair (r : Recording) : Type 0 where
  pub reduced : length r.reduced ≡ pair_count r.params.cores
  pub regulated : length r.regulated ≡ pair_count r.params.cores
