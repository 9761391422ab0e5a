-- The versions of the format, and the limits of each.
use Rattle.std.specs.Prelude.{◌≡◌, ℕ, ◌%◌, ◌≤◌, List, [], ◌∷◌, Bool, ◌&&◌, nat_le}
use Rattle.rtr_types.specs.declared.params.Params.{Params}
use Rattle.rtr_types.specs.declared.params.TheConstants.{WORDS_MIN, WORDS_MAX}
use Rattle.rtr_types.specs.Parameters.{Fits}
use Rattle.log_codec.specs.declared.version.Version.{Version}
use Rattle.log_codec.specs.declared.version.Version.TheVariants.{One, Two}
use Rattle.race_log.specs.Validity.{has_blocks, fits_run}

-- the letters RTR, and the version
abbrev pub magic : Version → List ℕ
magic One = 0x52 ∷ 0x54 ∷ 0x52 ∷ 1 ∷ []
magic Two = 0x52 ∷ 0x54 ∷ 0x52 ∷ 2 ∷ []

-- the limits of version 1, which are numbers of its own
pub record FitsOld (p : Params) : Type 0 where
  pub some_core : 1 ≤ p.cores
  pub cores : p.cores ≤ 8
  pub some_instruction : 1 ≤ p.limit
  pub limit : p.limit ≤ 100000
  pub some_block : WORDS_MIN ≤ p.words
  pub words : p.words ≤ WORDS_MAX
  pub whole_blocks : p.words % 4 ≡ 0

-- the limits of a version: those of version 2 are what a run may have
abbrev pub FitsIn : Version → Params → Type 0
FitsIn One p = FitsOld p
FitsIn Two p = Fits p

-- ---- the same as tests

abbrev pub fits_old : Params → Bool
fits_old p = (nat_le 1 p.cores && nat_le p.cores 8) && ((nat_le 1 p.limit && nat_le p.limit 100000) && has_blocks p)

abbrev pub fits_in : Version → Params → Bool
fits_in One p = fits_old p
fits_in Two p = fits_run p
