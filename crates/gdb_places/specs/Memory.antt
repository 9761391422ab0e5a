-- Rule: memory as it is told: byte_at
-- What is told of the memory.
use Rattle.std.specs.Prelude.{ℕ, ◌-◌, ◌*◌, ◌/◌, ◌%◌, ◌==◌, nat_le, nat_lt, List, map, slice_index, if◌then◌else◌}
use Rattle.std.specs.Int.{to_le_bytes, w32}
use Rattle.std.specs.List.{range_with_len}
use Rattle.gdb_packets.specs.declared.asks.Span.{Span}
use Rattle.gdb_packets.specs.declared.replies.Reply.{Reply}
use Rattle.gdb_packets.specs.declared.replies.Reply.TheVariants as reply
use Rattle.debug_place.specs.Places.{Placed}

-- the byte at an address: of the word there, in the place's state, the lowest byte first
abbrev pub byte_at : Placed → (address : ℕ) → ℕ
byte_at place address = slice_index (to_le_bytes w32 (slice_index place.state.words (address / 4))) (address % 4)

-- so many bytes from an address on
abbrev pub bytes_at : Placed → (at count : ℕ) → List ℕ
bytes_at place at count = map (byte_at place) (range_with_len at count)

-- how many bytes of a span lie in a memory of so many words
abbrev pub bytes_there : (words : ℕ) → Span → ℕ
bytes_there words span =
    if nat_le (words * 4) span.at then 0 else
    if nat_lt span.len (words * 4 - span.at) then span.len else words * 4 - span.at

-- the bytes of a span that lie in the memory
abbrev pub memory_reply : Placed → Span → Reply
memory_reply place span =
    if bytes_there place.recording.params.words span == 0 then reply.Refused else
    reply.Bytes (bytes_at place span.at (bytes_there place.recording.params.words span))
