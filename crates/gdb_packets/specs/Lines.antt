-- Both directions together: what is written at once for what comes, and what an answer adds.
use Rattle.std.specs.Prelude.{◌≡◌, ℕ, Bool, List, [], ◌∷◌, if◌then◌else◌}
use Rattle.gdb_packets.specs.declared.line.Line.{Line}
use Rattle.gdb_packets.specs.Bytes.{minus, plus}
use Rattle.gdb_packets.specs.Frames.{Standing, Event, Nothing, Packet, Broken, Interrupt, Again}
use Rattle.gdb_packets.specs.Readers.{IsAt, payload_of}

-- where reading stands, whether frames are acknowledged, and the frame that was written last
pub record Wire : Type 0 where
  pub at : Standing
  pub acks : Bool
  pub last : List ℕ

-- the line stands so
pub record Shows (wire : Wire) (line : Line) : Type 0 where
  pub at : IsAt wire.at line.reader
  pub acks : line.acks ≡ wire.acks
  pub last : line.last ≡ wire.last

-- the payload of the packet that was heard last
abbrev pub payload_in : Line → List ℕ
payload_in line = payload_of line.reader

-- what is written at once: while frames are acknowledged, whether one was good, and the last frame where it's wanted
abbrev pub acknowledged : Wire → Event → List ℕ
acknowledged wire Nothing = []
acknowledged wire (Packet payload) = if wire.acks then plus ∷ [] else []
acknowledged wire Broken = if wire.acks then minus ∷ [] else []
acknowledged wire Interrupt = []
acknowledged wire Again = wire.last
