-- Words on sets of cores. Above this crate they are opaque, and known by the laws of `core_set_laws` alone; the width
-- of a set stands here and in the type's one field.
use Rattle.std.specs.Prelude.{ℕ, Bool, ◌==◌, ◌*◌, ◌%◌, ◌^◌, bit_and, bit_or, nat_lt}
use Rattle.std.specs.Int.{Width, bit_at, bit_not, w16}
use Rattle.rtr_types.specs.declared.TheConstants.{CORES_MAX}
use Rattle.rtr_types.specs.declared.core_set.CoreSet.{CoreSet}

-- one bit for each core that there may be
abbrev pub set_width : Width
set_width = w16

abbrev pub no_cores : CoreSet
no_cores = record { bits = 0 }

-- whether the core is in the set
unfoldable pub has : CoreSet → ℕ → Bool
has s c = bit_at s.bits c == 1

-- the set and the core
unfoldable pub with_core : CoreSet → ℕ → CoreSet
with_core s c = record { bits = bit_or s.bits (1 * 2 ^ c % 2 ^ CORES_MAX) }

-- the set but for the core
unfoldable pub without_core : CoreSet → ℕ → CoreSet
without_core s c = record { bits = bit_and s.bits (bit_not set_width (1 * 2 ^ c % 2 ^ CORES_MAX)) }

-- no core is in the set
abbrev pub is_none : CoreSet → Bool
is_none s = s.bits == 0

-- all cores of the set are below the greatest number of cores, which every set that the code holds meets
abbrev pub is_below : CoreSet → Bool
is_below s = nat_lt s.bits (2 ^ CORES_MAX)
