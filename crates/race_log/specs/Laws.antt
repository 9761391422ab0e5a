-- Validity as a test, and by pair.
use Rattle.std.specs.Prelude.{ℕ, ◌↔◌, IsTrue, [], slice_index, slice_index_or}
use Rattle.rtr_types.specs.Pairs.{IsPair, pair_place}
use Rattle.race_log.specs.declared.recording.Recording.{Recording}
use Rattle.rtr_types.specs.PairEdges.{AreEdges}
use Rattle.race_log.specs.Validity.{Valid, is_valid, AreVectors}

-- a recording is valid just where the test says so
abbrev pub ValidTest : Type 0
ValidTest = (r : Recording) → IsTrue (is_valid r) ↔ Valid r

-- the edges of each pair rise, and are at most the totals of its two cores
abbrev pub EdgesByPair : Type 0
EdgesByPair = (r : Recording) (from to : ℕ) → Valid r → IsPair r.params.cores from to →
    AreEdges (slice_index r.totals from, slice_index r.totals to)
    (slice_index_or r.reduced (pair_place r.params.cores from to) [])

-- the vectors of each pair rise, and end at most at the totals of its two cores
abbrev pub VectorsByPair : Type 0
VectorsByPair = (r : Recording) (from to : ℕ) → Valid r → IsPair r.params.cores from to →
    AreVectors (slice_index r.totals from, slice_index r.totals to)
    (slice_index_or r.regulated (pair_place r.params.cores from to) [])
