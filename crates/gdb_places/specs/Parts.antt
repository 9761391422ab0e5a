-- Documents that are asked for part by part.
use Rattle.std.specs.Prelude.{ℕ, nat_le, List, length, take, drop, if◌then◌else◌}
use Rattle.gdb_packets.specs.declared.asks.Span.{Span}
use Rattle.gdb_packets.specs.declared.replies.Reply.{Reply}
use Rattle.gdb_packets.specs.declared.replies.Reply.TheVariants as reply

-- so many bytes of what is left of a text
abbrev pub part_from : List ℕ → (len : ℕ) → Reply
part_from rest len = if nat_le (length rest) len then reply.LastPart rest else reply.Part (take len rest)

-- the part of a text that a span asks for
abbrev pub part_reply : List ℕ → Span → Reply
part_reply text span = part_from (drop span.at text) span.len
