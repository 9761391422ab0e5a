-- Rule: the first part of a recording that has no reading, by the grammar: WholeNames
-- The first part that has no reading, in the grammar's own words: the parts below it are spelled by a front of the
-- bytes, and no valid part follows there.
use Rattle.std.specs.Prelude.{◌≡◌, ◌≢◌, ℕ, ◌*◌, ◌<◌, ◌≤◌, ◌↔◌, List, [], ◌++◌, length, slice_index_or, All, Result, Err}
use Rattle.rtr_types.specs.declared.params.Params.{Params}
use Rattle.rtr_types.specs.Pairs.{pair_count}
use Rattle.stride_vector.specs.declared.StrideVector.{StrideVector}
use Rattle.race_log.specs.declared.recording.Recording.{Recording}
use Rattle.log_codec.specs.declared.version.Version.{Version}
use Rattle.log_codec.specs.Laws.{IsBytes}
use Rattle.log_codec.specs.Reading.{front_at, whole_at}
use Rattle.log_codec.specs.Spelling.{header_text, totals_text, reduced_text, regulated_text}
use Rattle.rtr_types.specs.PairEdges.{AreEdges}
use Rattle.race_log.specs.Validity.{AreVectors, bound_at}
use Rattle.log_codec.specs.Versions.{FitsIn}

-- ---- a valid part at the front of the bytes, before the rest

pub record IsHeader (bytes : List ℕ) (v : Version) (p : Params) (len : ℕ) (rest : List ℕ) : Type 0 where
  pub limits : FitsIn v p
  pub room : len ≤ 4 * p.words
  pub spelled : bytes ≡ header_text v p len ++ rest

pub record IsImage (len : ℕ) (bytes image rest : List ℕ) : Type 0 where
  pub long : length image ≡ len
  pub spelled : bytes ≡ image ++ rest

pub record IsTotals (p : Params) (bytes totals rest : List ℕ) : Type 0 where
  pub each_core : length totals ≡ p.cores
  pub most : All (λ t. t ≤ p.limit) totals
  pub spelled : bytes ≡ totals_text totals ++ rest

pub record IsReduced (v : Version) (totals bytes : List ℕ) (reduced : List (List (ℕ × ℕ)))
    (rest : List ℕ) : Type 0 where
  pub pairs : length reduced ≡ pair_count (length totals)
  pub edges : (place : ℕ) → place < pair_count (length totals) →
      AreEdges (bound_at totals place) (slice_index_or reduced place [])
  pub spelled : bytes ≡ reduced_text v (length totals) reduced ++ rest

pub record IsRegulated (totals bytes : List ℕ) (regulated : List (List StrideVector)) (rest : List ℕ) : Type 0 where
  pub pairs : length regulated ≡ pair_count (length totals)
  pub vectors : (place : ℕ) → place < pair_count (length totals) →
      AreVectors (bound_at totals place) (slice_index_or regulated place [])
  pub spelled : bytes ≡ regulated_text regulated ++ rest

-- ---- the parts up to one, of which each is valid, and the rest after it

-- what is a header of bytes, before the rest: the version of the parts after it, the parameters, the image's length
abbrev pub HeaderRelation : Type 1
HeaderRelation = (bytes : List ℕ) → Version → Params → (len : ℕ) → (rest : List ℕ) → Type 0

pub record UpToHeader (Header : HeaderRelation) (bytes rest : List ℕ) : Type 0 where
  pub version : Version
  pub params : Params
  pub len : ℕ
  pub header : Header bytes version params len rest

pub record UpToImage (Header : HeaderRelation) (bytes rest : List ℕ) : Type 0 where
  pub before : List ℕ
  pub first : UpToHeader Header bytes before
  pub image : List ℕ
  pub second : IsImage first.len before image rest

pub record UpToTotals (Header : HeaderRelation) (bytes rest : List ℕ) : Type 0 where
  pub before : List ℕ
  pub two : UpToImage Header bytes before
  pub totals : List ℕ
  pub third : IsTotals two.first.params before totals rest

pub record UpToReduced (Header : HeaderRelation) (bytes rest : List ℕ) : Type 0 where
  pub before : List ℕ
  pub three : UpToTotals Header bytes before
  pub reduced : List (List (ℕ × ℕ))
  pub fourth : IsReduced three.two.first.version three.totals before reduced rest

pub record UpToRegulated (bytes rest : List ℕ) : Type 0 where
  pub before : List ℕ
  pub four : UpToReduced IsHeader bytes before
  pub regulated : List (List StrideVector)
  pub fifth : IsRegulated four.three.totals before regulated rest

-- the recording of five valid parts
abbrev pub recording_up_to : (bytes rest : List ℕ) → UpToRegulated bytes rest → Recording
recording_up_to bytes rest u = record {
  params = u.four.three.two.first.params;
  image = u.four.three.two.image;
  totals = u.four.three.totals;
  reduced = u.four.reduced;
  regulated = u.regulated;
}

-- ---- a part that isn't there, after those below it

-- no header, in any version
abbrev pub NoHeader : HeaderRelation → (bytes : List ℕ) → Type 0
NoHeader Header bytes = (v : Version) (p : Params) (len : ℕ) (rest : List ℕ) → Header bytes v p len rest → ⊥

-- a header, and no image after it
abbrev pub NoImage : HeaderRelation → (bytes : List ℕ) → Type 0
NoImage Header bytes = (rest : List ℕ) × (u : UpToHeader Header bytes rest)
    × ((image after : List ℕ) → IsImage u.len rest image after → ⊥)

-- an image, and no totals after it
abbrev pub NoTotals : HeaderRelation → (bytes : List ℕ) → Type 0
NoTotals Header bytes = (rest : List ℕ) × (u : UpToImage Header bytes rest)
    × ((totals after : List ℕ) → IsTotals u.first.params rest totals after → ⊥)

-- totals, and no reduced log after them
abbrev pub NoReduced : HeaderRelation → (bytes : List ℕ) → Type 0
NoReduced Header bytes = (rest : List ℕ) × (u : UpToTotals Header bytes rest)
    × ((reduced : List (List (ℕ × ℕ))) (after : List ℕ) →
    IsReduced u.two.first.version u.totals rest reduced after → ⊥)

-- a reduced log, and no regulated log after it
abbrev pub NoRegulated : (bytes : List ℕ) → Type 0
NoRegulated bytes = (rest : List ℕ) × (u : UpToReduced IsHeader bytes rest)
    × ((regulated : List (List StrideVector)) (after : List ℕ) → IsRegulated u.three.totals rest regulated after → ⊥)

-- ---- which part is named, by its number

-- of the parts that are read, the first five by what they say where they are named, and none beyond the last
pub record FiveNamed (A : Type 0) (read : Result A ℕ) (last : ℕ)
    (Header Image Totals Reduced Fifth : Type 0) : Type 0 where
  pub header : (read ≡ Err 1) ↔ Header
  pub image : (read ≡ Err 2) ↔ Image
  pub totals : (read ≡ Err 3) ↔ Totals
  pub reduced : (read ≡ Err 4) ↔ Reduced
  pub fifth : (read ≡ Err 5) ↔ Fifth
  pub no_other : (part : ℕ) → read ≡ Err part → (1 ≤ part) × (part ≤ last)

-- by a reading of a front of the bytes
abbrev pub FrontNames : (bytes : List ℕ) → Type 0
FrontNames bytes = FiveNamed (Recording × List ℕ) (front_at bytes) 5 (NoHeader IsHeader bytes)
    (NoImage IsHeader bytes) (NoTotals IsHeader bytes) (NoReduced IsHeader bytes) (NoRegulated bytes)

-- by a reading of all bytes: the same, or the end, where bytes follow the other parts
pub record WholeNames (bytes : List ℕ) : Type 0 where
  pub below : (part : ℕ) → part ≢ 6 → (whole_at bytes ≡ Err part) ↔ (front_at bytes ≡ Err part)
  pub end : (whole_at bytes ≡ Err 6) ↔ ((rest : List ℕ) × UpToRegulated bytes rest × (rest ≢ []))
  pub no_other : (part : ℕ) → whole_at bytes ≡ Err part → (1 ≤ part) × (part ≤ 6)

abbrev pub BadPart : Type 0
BadPart = (bytes : List ℕ) → IsBytes bytes → FrontNames bytes × WholeNames bytes
