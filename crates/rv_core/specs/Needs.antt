-- What the access that an instruction needs does to its word.
use Rattle.std.specs.Prelude.{ℕ, Bool, false, Option, Some, None}
use Rattle.rtr_types.specs.declared.access.Kind.{Kind}
use Rattle.rtr_types.specs.Accesses.{is_read, is_write}
use Rattle.rv_core.specs.declared.core_state.Need.{Need}
use Rattle.rv_core.specs.Steps.{access_of}

-- there is an access, and its kind passes a test
abbrev pub is_of_kind : (Kind → Bool) → Option (Kind × ℕ) → Bool
is_of_kind test None = false
is_of_kind test (Some used) = test used.0

-- the access takes its word's value
abbrev pub is_reading : Need → Bool
is_reading need = is_of_kind is_read (access_of need)

-- the access may change its word
abbrev pub is_writing : Need → Bool
is_writing need = is_of_kind is_write (access_of need)
