-- The times of a block's words, as values. Each is written from its places, so that its laws hold of values of any
-- length.
use Rattle.std.specs.Prelude.{ℕ, ◌==◌, ◌%◌, nat_lt, Bool, true, false, ◌&&◌, Option, Some, None, List, []}
use Rattle.std.specs.Prelude.{slice_index_or, replicate, map, if◌then◌else◌}
use Rattle.std.specs.List.{range_with_len}
use Rattle.std.specs.Str.{bytes_eq}
use Rattle.rtr_types.specs.declared.instr.Instr.{Instr}
use Rattle.rtr_types.specs.declared.access.Access.{Access}
use Rattle.rtr_types.specs.declared.access.Kind.{Kind}
use Rattle.rtr_types.specs.Accesses.{is_write}
use Rattle.clock_core.specs.declared.clock.Clock.{Clock}
use Rattle.rtr_types.specs.declared.TheConstants.{BLOCK_WORDS, CORES_MAX}
use Rattle.access_times.specs.declared.times.SlotTimes.{SlotTimes}
use Rattle.access_times.specs.declared.times.Times.{Times}
use Rattle.access_times.specs.Riding.{Riding}

-- both are none, or they are one write with one clock
abbrev pub is_same_write : Option (Instr × Clock) → Option (Instr × Clock) → Bool
is_same_write None None = true
is_same_write None (Some b) = false
is_same_write (Some a) None = false
is_same_write (Some a) (Some b) = (a.0.core == b.0.core) && ((a.0.count == b.0.count) && bytes_eq a.1 b.1)

-- a core's noted read, with its instruction
abbrev pub read_note : (core : ℕ) → Option (ℕ × Clock) → Option (Instr × Clock)
read_note core None = None
read_note core (Some r) = Some (record { core = core; count = r.0 }, r.1)

-- the read with the greater count, where there are two
abbrev pub newer_read : Option (ℕ × Clock) → Option (ℕ × Clock) → Option (ℕ × Clock)
newer_read None b = b
newer_read (Some a) None = Some a
newer_read (Some a) (Some b) = if nat_lt a.0 b.0 then Some b else Some a

abbrev pub no_reads : List (Option (ℕ × Clock))
no_reads = replicate CORES_MAX None

-- the times of no access
abbrev pub no_times : SlotTimes
no_times = record { write = None; reads = no_reads }

-- what is read where there is no slot
abbrev pub missing_slot : SlotTimes
missing_slot = record { write = None; reads = [] }

abbrev pub read_in : List (Option (ℕ × Clock)) → ℕ → Option (ℕ × Clock)
read_in reads core = slice_index_or reads core None

-- each core's newer read
unfoldable pub reads_absorbed : List (Option (ℕ × Clock)) → List (Option (ℕ × Clock)) → List (Option (ℕ × Clock))
reads_absorbed a b = map (λ core. newer_read (read_in a core) (read_in b core)) (range_with_len 0 CORES_MAX)

-- the newer of the own read and another, which wins a tie where that is said, and so for each core
abbrev pub newer_by : (ties : Bool) → Option (ℕ × Clock) → Option (ℕ × Clock) → Option (ℕ × Clock)
newer_by true own other = newer_read other own
newer_by false own other = newer_read own other

abbrev pub reads_by : (ties : Bool) → List (Option (ℕ × Clock)) → List (Option (ℕ × Clock)) → List (Option (ℕ × Clock))
reads_by true own other = reads_absorbed other own
reads_by false own other = reads_absorbed own other

-- reads are taken over only where the last writes are equal
abbrev pub slot_absorbed : SlotTimes → SlotTimes → SlotTimes
slot_absorbed a b = if is_same_write a.write b.write then record a { reads = reads_absorbed a.reads b.reads } else a

abbrev pub slot_at : Times → ℕ → SlotTimes
slot_at t slot = slice_index_or t.slots slot missing_slot

unfoldable pub times_absorbed : Times → Times → Times
times_absorbed a b =
    record { slots = map (λ slot. slot_absorbed (slot_at a slot) (slot_at b slot)) (range_with_len 0 BLOCK_WORDS) }

unfoldable pub fresh_times : Times
fresh_times = record { slots = replicate BLOCK_WORDS no_times }

abbrev pub times_riding : Riding Times
times_riding = record { fresh = fresh_times; absorbed = times_absorbed }

-- the last write of the slot's word
abbrev pub write_at : Times → ℕ → Option (Instr × Clock)
write_at t slot = (slot_at t slot).write

-- the core's last read of the slot's word since that write
abbrev pub read_at : Times → ℕ → ℕ → Option (ℕ × Clock)
read_at t slot core = read_in (slot_at t slot).reads core

-- the core's read is its newest
abbrev pub read_noted : SlotTimes → Instr → Clock → ℕ → Option (ℕ × Clock)
read_noted a at clock core = if core == at.core then Some (at.count, clock) else read_in a.reads core

unfoldable pub slot_loaded : SlotTimes → Instr → Clock → SlotTimes
slot_loaded a at clock =
    record { write = a.write; reads = map (λ core. read_noted a at clock core) (range_with_len 0 CORES_MAX) }

-- a slot's times are others, and the rest are as they were
abbrev pub slot_set : Times → ℕ → (SlotTimes → SlotTimes) → ℕ → SlotTimes
slot_set t slot f k = if k == slot then f (slot_at t k) else slot_at t k

-- a read of the slot's word is noted
unfoldable pub times_loaded : Times → ℕ → Instr → Clock → Times
times_loaded t slot at clock =
    record { slots = map (λ k. slot_set t slot (λ a. slot_loaded a at clock) k) (range_with_len 0 BLOCK_WORDS) }

-- the times of a write that is the last access
abbrev pub slot_stored : Instr → Clock → SlotTimes
slot_stored at clock = record { write = Some (at, clock); reads = no_reads }

-- a write of the slot's word is noted, and its reads are forgotten
unfoldable pub times_stored : Times → ℕ → Instr → Clock → Times
times_stored t slot at clock =
    record { slots = map (λ k. slot_set t slot (λ a. slot_stored at clock) k) (range_with_len 0 BLOCK_WORDS) }

-- an access of the kind is noted: one that writes as a write, whether it reads or not, and any other as a read
abbrev pub times_noted_as : Kind → Times → ℕ → Instr → Clock → Times
times_noted_as kind t slot at clock =
    if is_write kind then times_stored t slot at clock else times_loaded t slot at clock

-- the access is noted in its word's slot, with the clock
abbrev pub times_noted : Access → Times → Clock → Times
times_noted a t clock = times_noted_as a.kind t (a.word % BLOCK_WORDS) a.at clock
