-- A history of eight cores, with how many retirements of each it has.
use Rattle.std.specs.Prelude.{◌≡◌, ℕ, ◌<◌, List, length, slice_index}
use Rattle.rtr_types.specs.declared.TheConstants.{CORES_MAX}
use Rattle.know_history.specs.Notes.{Notes, core_count, noted_count}

pub record AreCounted (notes : Notes) (counts : List ℕ) : Type 0 where
  pub cores : core_count notes ≡ 8
  pub all : length counts ≡ CORES_MAX
  pub each : (c : ℕ) → c < 8 → noted_count notes c ≡ slice_index counts c
