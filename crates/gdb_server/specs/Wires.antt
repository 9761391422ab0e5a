-- What a byte and an answer make of a wire.
use Rattle.std.specs.Prelude.{ℕ, ◌&&◌, not, Bool, true, false, List, [], ◌∷◌}
use Rattle.std.specs.List.{flat_map}
use Rattle.gdb_packets.specs.Frames.{follow, framed, tells}
use Rattle.gdb_packets.specs.Lines.{Wire, acknowledged}
use Rattle.gdb_server.specs.declared.partner.Answer.{Answer}
use Rattle.gdb_server.specs.declared.partner.Next.{Next}
use Rattle.gdb_server.specs.declared.partner.Next.TheVariants.{StopAcks, End}
use Rattle.gdb_server.specs.Words.{Heard, Word, saying}

-- the wire behind a byte
abbrev pub behind_byte : Wire → ℕ → Wire
behind_byte wire byte = record wire { at = follow wire.at byte }

-- a byte is heard, and what has to be said at once stands behind it
abbrev pub heard_at : Wire → ℕ → List Word
heard_at wire byte = Heard byte ∷ saying (acknowledged wire (tells wire.at byte))

-- the frames of payloads, in order
abbrev pub frames : List (List ℕ) → List ℕ
frames payloads = flat_map framed payloads

-- the frame that was written last, behind these
abbrev pub last_frame : (last : List ℕ) → List (List ℕ) → List ℕ
last_frame last [] = last
last_frame last (payload ∷ rest) = last_frame (framed payload) rest

-- nothing is acknowledged any more behind an answer
abbrev pub stops_acks : Next → Bool
stops_acks StopAcks = true
stops_acks next = false

-- the session is over behind an answer
abbrev pub is_last : Next → Bool
is_last End = true
is_last next = false

-- the wire behind an answer
abbrev pub behind_answer : Wire → Answer → Wire
behind_answer wire answer =
    record wire { acks = wire.acks && not (stops_acks answer.next); last = last_frame wire.last answer.payloads }
