-- Rule: the first part of a thin file that has no reading: ThinNames
-- The first part of a thinned recording that has no reading, in the grammar's own words: the parts below it are spelled
-- by a front of the bytes, and no valid part follows there. The first five parts are a recording's in version 2.
use Rattle.std.specs.Prelude.{◌≡◌, ◌≢◌, ℕ, ◌↔◌, List, [], ◌++◌, length, Err}
use Rattle.rtr_types.specs.declared.params.Params.{Params}
use Rattle.rtr_types.specs.Turns.{StandInTurn, stay}
use Rattle.stride_vector.specs.declared.StrideVector.{StrideVector}
use Rattle.race_log.specs.declared.recording.Recording.{Recording}
use Rattle.log_codec.specs.declared.version.Version.TheVariants.{Two}
use Rattle.log_codec.specs.BadParts.{FiveNamed, IsHeader, IsImage, IsReduced, IsRegulated, IsTotals, UpToHeader}
use Rattle.log_codec.specs.BadParts.{UpToImage, UpToReduced, UpToRegulated, UpToTotals, recording_up_to}
use Rattle.log_codec.specs.Laws.{IsBytes}
use Rattle.vector_reduce.specs.declared.thinned.Shown.{Shown}
use Rattle.vector_reduce.specs.declared.thinned.Thinned.{Thinned}
use Rattle.vector_reduce.specs.Reading.{thinned_at}
use Rattle.vector_reduce.specs.Spelling.{shown_text}
use Rattle.vector_reduce.specs.Validity.{ShownStands}
use Rattle.vector_reduce.specs.Vectors.{vectors_of}

-- a valid sixth part at the front of the bytes, before the rest: one for each vector
pub record AreShown (r : Recording) (bytes : List ℕ) (shown : List Shown) (rest : List ℕ) : Type 0 where
  pub each_vector : length shown ≡ length (vectors_of r)
  pub stand : StandInTurn (ShownStands r.totals) stay tt shown
  pub spelled : bytes ≡ shown_text shown ++ rest

-- all parts but the end, of which each is valid, and the rest after them
pub record UpToShown (bytes rest : List ℕ) : Type 0 where
  pub before : List ℕ
  pub five : UpToRegulated bytes before
  pub version : five.four.three.two.first.version ≡ Two
  pub shown : List Shown
  pub sixth : AreShown (recording_up_to bytes before five) before shown rest

-- ---- a part that isn't there, after those below it in version 2

abbrev pub NoHeader : (bytes : List ℕ) → Type 0
NoHeader bytes = (p : Params) (len : ℕ) (rest : List ℕ) → IsHeader bytes Two p len rest → ⊥

abbrev pub NoImage : (bytes : List ℕ) → Type 0
NoImage bytes = (rest : List ℕ) × (u : UpToHeader IsHeader bytes rest) × (u.version ≡ Two)
    × ((image after : List ℕ) → IsImage u.len rest image after → ⊥)

abbrev pub NoTotals : (bytes : List ℕ) → Type 0
NoTotals bytes = (rest : List ℕ) × (u : UpToImage IsHeader bytes rest) × (u.first.version ≡ Two)
    × ((totals after : List ℕ) → IsTotals u.first.params rest totals after → ⊥)

abbrev pub NoReduced : (bytes : List ℕ) → Type 0
NoReduced bytes = (rest : List ℕ) × (u : UpToTotals IsHeader bytes rest) × (u.two.first.version ≡ Two)
    × ((reduced : List (List (ℕ × ℕ))) (after : List ℕ) → IsReduced Two u.totals rest reduced after → ⊥)

abbrev pub NoRegulated : (bytes : List ℕ) → Type 0
NoRegulated bytes = (rest : List ℕ) × (u : UpToReduced IsHeader bytes rest) × (u.three.two.first.version ≡ Two)
    × ((regulated : List (List StrideVector)) (after : List ℕ) → IsRegulated u.three.totals rest regulated after → ⊥)

abbrev pub NoShown : (bytes : List ℕ) → Type 0
NoShown bytes = (rest : List ℕ) × (u : UpToRegulated bytes rest) × (u.four.three.two.first.version ≡ Two)
    × ((shown : List Shown) (after : List ℕ) → AreShown (recording_up_to bytes rest u) rest shown after → ⊥)

-- which part is named, by its number: part k just where the parts below it are there and it isn't, and 7 where bytes
-- follow all others
pub record ThinNames (bytes : List ℕ) : Type 0 where
  pub five : FiveNamed Thinned (thinned_at bytes) 7 (NoHeader bytes) (NoImage bytes) (NoTotals bytes) (NoReduced bytes)
      (NoRegulated bytes)
  pub shown : (thinned_at bytes ≡ Err 6) ↔ NoShown bytes
  pub end : (thinned_at bytes ≡ Err 7) ↔ ((rest : List ℕ) × UpToShown bytes rest × (rest ≢ []))

abbrev pub BadPart : Type 0
BadPart = (bytes : List ℕ) → IsBytes bytes → ThinNames bytes
