-- The next edges of the lists that are merged, each as one number, its key.
use Rattle.std.specs.Prelude.{◌≡◌, ℕ, ◌+◌, ◌*◌, ◌/◌, ◌%◌, ◌<◌, ◌≤◌, List, Option, None, Some, length, slice_get}
use Rattle.std.specs.Prelude.{slice_index}
use Rattle.rtr_types.specs.declared.TheConstants.{CORES_MAX}
use Rattle.log_codec.specs.declared.fronts.TheConstants.{GROUP, PAST}

-- the key of a list's next edge is the target's count of it and then the list's source core, or is above each key
abbrev pub IsFront : (source : ℕ) → Option (ℕ × ℕ) → ℕ → Type 0
IsFront source None key = key ≡ PAST
IsFront source (Some counts) key = (key ≡ counts.1 * CORES_MAX + source) × (key < PAST)

-- the keys of the cores' lists; other cores have none
pub record AreFronts (cores : ℕ) (lists : ℕ → List (ℕ × ℕ)) (keys : List ℕ) : Type 0 where
  pub places : length keys ≡ CORES_MAX
  pub each : (source : ℕ) → source < cores → IsFront source (slice_get (lists source) 0) (slice_index keys source)
  pub past : (source : ℕ) → cores ≤ source → source < CORES_MAX → slice_index keys source ≡ PAST

-- the core has an edge, and no core's key is less
pub record IsLeast (keys : List ℕ) (source : ℕ) : Type 0 where
  pub inside : source < CORES_MAX
  pub some : slice_index keys source < PAST
  pub least : (other : ℕ) → other < CORES_MAX → slice_index keys source ≤ slice_index keys other

-- ---- how they are kept

-- each key ends with its own core
pub record AreKeys (keys : List ℕ) : Type 0 where
  pub places : length keys ≡ CORES_MAX
  pub most : (source : ℕ) → source < CORES_MAX → slice_index keys source ≤ PAST
  pub own : (source : ℕ) → source < CORES_MAX → slice_index keys source < PAST →
      slice_index keys source % CORES_MAX ≡ source

-- the least key in a group of cores, which is the key of one of them
pub record IsGroupLeast (keys : List ℕ) (group least : ℕ) : Type 0 where
  pub lower : (source : ℕ) → source < CORES_MAX → source / GROUP ≡ group → least ≤ slice_index keys source
  pub own : least < PAST → (least % CORES_MAX / GROUP ≡ group) × (slice_index keys (least % CORES_MAX) ≡ least)
