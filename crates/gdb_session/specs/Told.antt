-- What is told of a place, without moving.
use Rattle.std.specs.Prelude.{ℕ, Bool, is_some, Option, Some, None, slice_index, if◌then◌else◌}
use Rattle.gdb_packets.specs.declared.asks.Plain.{Plain}
use Rattle.gdb_packets.specs.declared.asks.Plain.TheVariants as plain
use Rattle.gdb_packets.specs.declared.asks.Thread.{Thread}
use Rattle.gdb_packets.specs.declared.replies.Reply.{Reply}
use Rattle.gdb_packets.specs.declared.replies.Reply.TheVariants as reply
use Rattle.gdb_packets.specs.declared.replies.Signal.TheVariants.{Trap}
use Rattle.gdb_packets.specs.declared.replies.Stop as stops
use Rattle.gdb_packets.specs.declared.replies.Why.TheVariants.{Nothing}
use Rattle.debug_place.specs.Places.{Placed}
use Rattle.gdb_session.specs.declared.wishes.Wishes.{Wishes}
use Rattle.gdb_places.specs.Memory.{memory_reply}
use Rattle.gdb_places.specs.Parts.{part_reply}
use Rattle.gdb_places.specs.Registers.{register_reply, registers_reply}
use Rattle.gdb_places.specs.Target.{target_text}
use Rattle.gdb_places.specs.Threads.{thread_text, threads_text}
use Rattle.gdb_session.specs.Wishes.{core_of, is_there}

-- the stop that is told where nothing has moved
abbrev pub told_stop : (core : ℕ) → stops.Stop
told_stop core = record { signal = Trap; core = core; why = Nothing }

-- whether there is such a thing
abbrev pub there_reply : Bool → Reply
there_reply there = if there then reply.Done else reply.Refused

-- what is said of a core's thread
abbrev pub core_text_reply : Placed → Option ℕ → Reply
core_text_reply place None = reply.Refused
core_text_reply place (Some core) = reply.Bytes (thread_text place core)

-- what is said of a thread, if it's there
abbrev pub thread_reply : Placed → Thread → Reply
thread_reply place thread = core_text_reply place (core_of thread place.recording.params.cores)

-- registers of a core, as it stands in the place's state, or memory
abbrev pub place_reply : Placed → (core : ℕ) → Plain → Reply
place_reply place core plain.Registers = registers_reply place core (slice_index place.recording.totals core)
place_reply place core (plain.Register number) =
    register_reply place core (slice_index place.recording.totals core) number
place_reply place core (plain.Memory span) = memory_reply place span
place_reply place core _ = reply.Unknown

-- the answers that say nothing of the place
abbrev pub word_reply : Plain → Reply
word_reply plain.ThreadsRest = reply.ThreadsRest
word_reply plain.Features = reply.Features
word_reply plain.Attached = reply.Attached
word_reply plain.StopAcks = reply.Done
word_reply plain.Detach = reply.Done
word_reply plain.Kill = reply.Done
word_reply plain.OtherPart = reply.Absent
word_reply plain.Write = reply.Refused
word_reply plain.Malformed = reply.Refused
word_reply _ = reply.Unknown

-- the answer to a packet that moves nothing and sets no point
abbrev pub still_reply : Placed → Wishes → Plain → Reply
still_reply place wishes plain.LastStop = reply.Stopped (told_stop wishes.told)
still_reply place wishes plain.ToldThread = reply.ToldThread wishes.told
still_reply place wishes plain.ThreadsFirst = reply.ThreadsFirst place.recording.params.cores
still_reply place wishes (plain.LookAt thread) = there_reply (is_there thread place.recording.params.cores)
still_reply place wishes (plain.MoveWith thread) = there_reply (is_there thread place.recording.params.cores)
still_reply place wishes (plain.IsThere thread) = there_reply (is_some (core_of thread place.recording.params.cores))
still_reply place wishes (plain.ThreadText thread) = thread_reply place thread
still_reply place wishes (plain.TargetPart span) = part_reply target_text span
still_reply place wishes (plain.ThreadsPart span) = part_reply (threads_text place) span
still_reply place wishes plain.Registers = place_reply place wishes.looked plain.Registers
still_reply place wishes (plain.Register number) = place_reply place wishes.looked (plain.Register number)
still_reply place wishes (plain.Memory span) = place_reply place wishes.looked (plain.Memory span)
still_reply place wishes other = word_reply other
