-- Rule: a core on its own, with its own loads: goes_on, alone_after
-- One core on its own. It needs no other core and no memory, only what its own loads read, one after the other.
use Rattle.std.specs.Prelude.{ℕ, zero, suc, ◌+◌, Bool, false, List, Some, None, if◌then◌else◌, slice_index_or}
use Rattle.rtr_types.specs.Accesses.{is_read}
use Rattle.image_mem.specs.Contents.{Contents}
use Rattle.rv_core.specs.declared.outcome.LoadNote.{LoadNote}
use Rattle.rv_core.specs.States.{starting}
use Rattle.rv_core.specs.Steps.{after, need}
use Rattle.replay_core.specs.Play.{Use, use_of}
use Rattle.cut_index.specs.declared.alone.Alone.{Alone}

-- what a list has past its end
abbrev pub no_load : LoadNote
no_load = record { count = 0; word = 0; value = 0 }

-- an instruction by this use reads its word
abbrev pub reads : Use → Bool
reads None = false
reads (Some used) = is_read used.0

-- what the next instruction finds: one that reads finds what the core's next load read. What any other finds doesn't
-- matter to the core
abbrev pub own_value : Use → (loads : List LoadNote) → (read : ℕ) → ℕ
own_value used loads read = if reads used then (slice_index_or loads read no_load).value else 0

-- how many loads it has read behind it
abbrev pub own_read : Use → (read : ℕ) → ℕ
own_read used read = if reads used then read + 1 else read

-- one instruction more
abbrev pub goes_on : Contents → (loads : List LoadNote) → Alone → Alone
goes_on image loads a = record {
  core = after image a.core (own_value (use_of (need image a.core)) loads a.read);
  read = own_read (use_of (need image a.core)) a.read;
}

-- so many more
abbrev pub alone_after : Contents → (loads : List LoadNote) → Alone → (count : ℕ) → Alone
alone_after image loads a zero = a
alone_after image loads a (suc count) = goes_on image loads (alone_after image loads a count)

-- before its first instruction
abbrev pub alone_first : (core limit : ℕ) → Alone
alone_first core limit = record { core = starting core limit; read = 0 }
