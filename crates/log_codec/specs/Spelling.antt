-- Rule: the bytes of a recording: spelling
-- The one spelling of each recording in each version, part by part. The versions differ in the header and in the
-- fourth part.
use Rattle.std.specs.Prelude.{◌≡◌, ℕ, ◌-◌, List, [], ◌++◌, length, map, nat_lt, if◌then◌else◌}
use Rattle.std.specs.List.{range_with_len}
use Rattle.rtr_types.specs.declared.params.Params.{Params}
use Rattle.stride_vector.specs.declared.StrideVector.{StrideVector}
use Rattle.varint_core.specs.Leb128 as leb128
use Rattle.race_log.specs.declared.recording.Recording.{Recording}
use Rattle.log_codec.specs.declared.incoming.Incoming.{Incoming}
use Rattle.log_codec.specs.declared.version.Version.{Version}
use Rattle.log_codec.specs.declared.version.Version.TheVariants.{One, Two}
use Rattle.log_codec.specs.Incoming.{incoming_edges, target_count, remember, last_target, last_source}
use Rattle.rtr_types.specs.Turns.{stay, follow, count_up}
use Rattle.log_codec.specs.Turns.{alike, spelled_in_turn}
use Rattle.race_log.specs.Validity.{end_of}
use Rattle.log_codec.specs.Versions.{magic, FitsIn}

-- a number as LEB128
abbrev pub number : ℕ → List ℕ
number n = leb128.spelling n

-- the parameters and the length of the image
abbrev pub sizes_text : Params → ℕ → List ℕ
sizes_text p len = number p.cores ++ (number p.limit ++ (number p.words ++ number len))

-- the first part: the version, the parameters and the length of the image
abbrev pub header_text : Version → Params → ℕ → List ℕ
header_text v p len = magic v ++ sizes_text p len

-- the third part: a number for each core
abbrev pub totals_text : List ℕ → List ℕ
totals_text totals = spelled_in_turn (alike number) stay (tt {0}) totals

-- an edge: how far the target's count rises from the edge before it, then the source's
abbrev pub edge_text : ℕ × ℕ → ℕ × ℕ → List ℕ
edge_text last e = number (e.1 - last.1) ++ number (e.0 - last.0)

-- the edges of a pair: how many, and these
abbrev pub edges_text : List (ℕ × ℕ) → List ℕ
edges_text edges = number (length edges) ++ spelled_in_turn edge_text follow (0, 0) edges

-- the edges of each pair
abbrev pub pairs_text : List (List (ℕ × ℕ)) → List ℕ
pairs_text reduced = spelled_in_turn (alike edges_text) count_up 0 reduced

-- an edge into a core: how far the target's count rises from the edge before it, the source core, and how
-- far the source's count rises from that core's edge before
abbrev pub incoming_text : List Incoming → Incoming → List ℕ
incoming_text before e =
    number (e.counts.1 - last_target before) ++ (number e.source ++ number (e.counts.0 - last_source e.source before))

-- the edges into a core: how many, and these
abbrev pub into_text : List Incoming → List ℕ
into_text edges = number (length edges) ++ spelled_in_turn incoming_text remember [] edges

-- the edges into each core
abbrev pub targets_text : ℕ → List (List (ℕ × ℕ)) → List ℕ
targets_text cores reduced =
    spelled_in_turn (alike into_text) count_up 0
    (map (incoming_edges cores reduced) (range_with_len 0 (target_count cores)))

-- the fourth part: the edges of each pair, or those into each core
abbrev pub reduced_text : Version → ℕ → List (List (ℕ × ℕ)) → List ℕ
reduced_text One cores reduced = pairs_text reduced
reduced_text Two cores reduced = targets_text cores reduced

-- the strides, where there is more than one position
abbrev pub strides_text : StrideVector → List ℕ
strides_text v = if nat_lt 1 v.n then number v.sa ++ number v.sb else []

-- a vector: the number of positions, the first position, the strides
abbrev pub vector_text : StrideVector → List ℕ
vector_text v = number v.n ++ (number v.a0 ++ (number v.b0 ++ strides_text v))

-- the vectors of a pair: how many, and these
abbrev pub vectors_text : List StrideVector → List ℕ
vectors_text vectors = number (length vectors) ++ spelled_in_turn (alike vector_text) end_of (0, 0) vectors

-- the fifth part: the vectors of each pair
abbrev pub regulated_text : List (List StrideVector) → List ℕ
regulated_text regulated = spelled_in_turn (alike vectors_text) count_up 0 regulated

-- the parts one after the other, of which the second is the image itself
unfoldable pub spelling_in : Version → Recording → List ℕ
spelling_in v r =
    header_text v r.params (length r.image)
    ++ (r.image ++ (totals_text r.totals
    ++ (reduced_text v r.params.cores r.reduced ++ regulated_text r.regulated)))

-- the spelling that is written
abbrev pub spelling : Recording → List ℕ
spelling r = spelling_in Two r

-- the bytes are the recording's spelling in a version whose limits it keeps
abbrev pub Spells : List ℕ → Recording → Type 0
Spells bytes r = (v : Version) × FitsIn v r.params × (bytes ≡ spelling_in v r)
