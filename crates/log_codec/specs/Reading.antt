-- Rule: the reading of bytes: whole_at
-- Reading a recording of either version from left to right. A number, a count or a byte that doesn't fit is a fault of
-- the part in which it stands.
use Rattle.std.specs.Prelude.{ℕ, ◌+◌, ◌*◌, List, [], length, take, drop, Result, Ok, Err, nat_lt, nat_le, nat_eq}
use Rattle.std.specs.Prelude.{◌&&◌, if◌then◌else◌}
use Rattle.std.specs.List.{starts_with}
use Rattle.rtr_types.specs.declared.params.Params.{Params}
use Rattle.rtr_types.specs.Pairs.{pair_count}
use Rattle.stride_vector.specs.declared.StrideVector.{StrideVector}
use Rattle.varint_core.specs.declared.Varint.{Varint}
use Rattle.varint_core.specs.Leb128 as leb128
use Rattle.log_codec.specs.declared.codec_fault.TheConstants.{HEADER, IMAGE, TOTALS, REDUCED, REGULATED, END}
use Rattle.race_log.specs.declared.recording.Recording.{Recording}
use Rattle.log_codec.specs.Faults.{◌>>=◌, read_all}
use Rattle.rtr_types.specs.Turns.{stay, follow, count_up}
use Rattle.log_codec.specs.Turns.{read_in_turn}
use Rattle.log_codec.specs.declared.incoming.Incoming.{Incoming}
use Rattle.log_codec.specs.declared.version.Version.{Version}
use Rattle.log_codec.specs.declared.version.Version.TheVariants.{One, Two}
use Rattle.log_codec.specs.Incoming.{pairs_of, target_count, with_into, remember, last_target, last_source}
use Rattle.log_codec.specs.Incoming.{incoming_stands}
use Rattle.race_log.specs.Validity.{bound_at, end_of, vector_stands}
use Rattle.log_codec.specs.Versions.{magic, fits_in}

-- the number that the bytes begin with, and the bytes after it
abbrev pub after_number : ℕ → List ℕ → Result (ℕ × ℕ) Varint → Result (ℕ × List ℕ) ℕ
after_number part bytes (Ok r) = Ok (r.0, drop r.1 bytes)
after_number part bytes (Err e) = Err part

unfoldable pub number_at : ℕ → List ℕ → Result (ℕ × List ℕ) ℕ
number_at part bytes = after_number part bytes (leb128.reading bytes)

-- the version that the bytes begin with, and the bytes after it
unfoldable pub version_at : List ℕ → Result (Version × List ℕ) ℕ
version_at bytes =
    if starts_with nat_eq bytes (magic One) then Ok (One, drop 4 bytes) else
    if starts_with nat_eq bytes (magic Two) then Ok (Two, drop 4 bytes) else Err HEADER

-- the parameters, where they lie within the version's limits, and the image within the memory
unfoldable pub params_of : Version → ℕ → ℕ → ℕ → ℕ → Result Params ℕ
params_of v cores limit words len =
    if fits_in v (record { cores = cores; limit = limit; words = words })
    && nat_le len (4 * words) then Ok (record { cores = cores; limit = limit; words = words }) else Err HEADER

-- the parameters, the length of the image, and the bytes after them
unfoldable pub sizes_at : Version → List ℕ → Result (Params × ℕ × List ℕ) ℕ
sizes_at v bytes = do
  cores ← number_at HEADER bytes
  limit ← number_at HEADER cores.1
  words ← number_at HEADER limit.1
  len ← number_at HEADER words.1
  params ← params_of v cores.0 limit.0 words.0 len.0
  Ok (params, len.0, len.1)

-- the version, the parameters, the length of the image, and the bytes after them
unfoldable pub header_at : List ℕ → Result (Version × Params × ℕ × List ℕ) ℕ
header_at bytes = do
  version ← version_at bytes
  sizes ← sizes_at version.0 version.1
  Ok (version.0, sizes.0, sizes.1, sizes.2)

unfoldable pub image_at : ℕ → List ℕ → Result (List ℕ × List ℕ) ℕ
image_at len bytes = if nat_lt (length bytes) len then Err IMAGE else Ok (take len bytes, drop len bytes)

unfoldable pub total_at : ℕ → List ℕ → Result (ℕ × List ℕ) ℕ
total_at limit bytes = do
  total ← number_at TOTALS bytes
  if nat_le total.0 limit then Ok total else Err TOTALS

-- a list: how many items, and these
abbrev pub counted_at : {S X : Type 0} → (S → List ℕ → Result (X × List ℕ) ℕ) → (S → X → S) → (part : ℕ) → S →
    List ℕ → Result (List X × List ℕ) ℕ
counted_at item next part s bytes = do
  count ← number_at part bytes
  read_in_turn item next count.0 s count.1

-- as many totals as there are cores
abbrev pub totals_at : ℕ → ℕ → List ℕ → Result (List ℕ × List ℕ) ℕ
totals_at limit cores bytes = read_in_turn (λ (s : Unit {0}). total_at limit) stay cores tt bytes

-- the next edge after the last one: the target's rise, and then the source's
unfoldable pub edge_at : ℕ × ℕ → ℕ × ℕ → List ℕ → Result ((ℕ × ℕ) × List ℕ) ℕ
edge_at most last bytes = do
  b ← number_at REDUCED bytes
  a ← number_at REDUCED b.1
  if (nat_lt 0 a.0 && nat_lt 0 b.0) && (nat_le (last.0 + a.0) most.0 && nat_le (last.1 + b.0) most.1) then Ok
      ((last.0 + a.0, last.1 + b.0), a.1) else Err REDUCED

-- the edges of a pair
unfoldable pub edges_at : ℕ × ℕ → List ℕ → Result (List (ℕ × ℕ) × List ℕ) ℕ
edges_at most bytes = counted_at (edge_at most) follow REDUCED (0, 0) bytes

-- the list of each pair, which is read with the pair's totals
abbrev pub by_pairs_at : {X : Type 0} → (ℕ × ℕ → List ℕ → Result (List X × List ℕ) ℕ) → List ℕ → List ℕ →
    Result (List (List X) × List ℕ) ℕ
by_pairs_at list_at totals bytes =
    read_in_turn (λ place. list_at (bound_at totals place)) count_up (pair_count (length totals)) 0 bytes

-- the edges of each pair
abbrev pub pairs_at : List ℕ → List ℕ → Result (List (List (ℕ × ℕ)) × List ℕ) ℕ
pairs_at totals bytes = by_pairs_at edges_at totals bytes

-- the edge into a core, where it stands after the ones before
abbrev pub standing_into : List ℕ → ℕ → List Incoming → Incoming → List ℕ → Result (Incoming × List ℕ) ℕ
standing_into totals target before e rest = if incoming_stands totals target before e then Ok (e, rest) else Err REDUCED

-- the next edge into a core: the target's rise, the source core, and the source's rise
unfoldable pub incoming_at : List ℕ → ℕ → List Incoming → List ℕ → Result (Incoming × List ℕ) ℕ
incoming_at totals target before bytes = do
  b ← number_at REDUCED bytes
  source ← number_at REDUCED b.1
  a ← number_at REDUCED source.1
  standing_into totals target before
      (record { source = source.0; counts = (last_source source.0 before + a.0, last_target before + b.0) }) a.1

-- the edges into a core
unfoldable pub into_at : List ℕ → ℕ → List ℕ → Result (List Incoming × List ℕ) ℕ
into_at totals target bytes = counted_at (incoming_at totals target) remember REDUCED [] bytes

-- the lists of the pairs, with what was read of the edges into a target at their ends
abbrev pub put_into_lists : (cores : ℕ) → List (List (ℕ × ℕ)) → (target : ℕ) → Result (List Incoming × List ℕ) ℕ →
    Result (List (List (ℕ × ℕ)) × List ℕ) ℕ
put_into_lists cores lists target read = do
  into ← read
  Ok (with_into cores lists target into.0, into.1)

-- the edges into each core, as those of each pair
unfoldable pub targets_at : List ℕ → List ℕ → Result (List (List (ℕ × ℕ)) × List ℕ) ℕ
targets_at totals bytes = do
  into ← read_in_turn (into_at totals) count_up (target_count (length totals)) 0 bytes
  Ok (pairs_of (length totals) into.0, into.1)

-- the fourth part, pair by pair or target by target
abbrev pub reduced_at : Version → List ℕ → List ℕ → Result (List (List (ℕ × ℕ)) × List ℕ) ℕ
reduced_at One totals bytes = pairs_at totals bytes
reduced_at Two totals bytes = targets_at totals bytes

-- two strides, the source's first
abbrev pub two_strides : List ℕ → Result (ℕ × ℕ × List ℕ) ℕ
two_strides bytes = do
  a ← number_at REGULATED bytes
  b ← number_at REGULATED a.1
  Ok (a.0, b.0, b.1)

-- the strides, which are 0 where there is no second position
unfoldable pub strides_at : ℕ → List ℕ → Result (ℕ × ℕ × List ℕ) ℕ
strides_at n bytes = if nat_lt 1 n then two_strides bytes else Ok (0, 0, bytes)

-- the vector, where it stands after the last position
abbrev pub standing : ℕ × ℕ → ℕ × ℕ → StrideVector → List ℕ → Result (StrideVector × List ℕ) ℕ
standing most last v rest = if vector_stands most last v then Ok (v, rest) else Err REGULATED

-- the next vector after the last position
unfoldable pub vector_at : ℕ × ℕ → ℕ × ℕ → List ℕ → Result (StrideVector × List ℕ) ℕ
vector_at most last bytes = do
  n ← number_at REGULATED bytes
  a ← number_at REGULATED n.1
  b ← number_at REGULATED a.1
  strides ← strides_at n.0 b.1
  standing most last (record { n = n.0; a0 = a.0; b0 = b.0; sa = strides.0; sb = strides.1 }) strides.2

-- the vectors of a pair
unfoldable pub vectors_at : ℕ × ℕ → List ℕ → Result (List StrideVector × List ℕ) ℕ
vectors_at most bytes = counted_at (vector_at most) end_of REGULATED (0, 0) bytes

-- the vectors of each pair
abbrev pub regulated_at : List ℕ → List ℕ → Result (List (List StrideVector) × List ℕ) ℕ
regulated_at totals bytes = by_pairs_at vectors_at totals bytes

-- the parts but for the end, and the bytes after them
unfoldable pub front_at : List ℕ → Result (Recording × List ℕ) ℕ
front_at bytes = do
  header ← header_at bytes
  image ← image_at header.2 header.3
  totals ← totals_at header.1.limit header.1.cores image.1
  reduced ← reduced_at header.0 totals.0 totals.1
  regulated ← regulated_at totals.0 reduced.1
  Ok (
    record { params = header.1; image = image.0; totals = totals.0; reduced = reduced.0; regulated = regulated.0 },
    regulated.1,
  )

-- all parts
unfoldable pub whole_at : List ℕ → Result Recording ℕ
whole_at bytes = read_all front_at END bytes
