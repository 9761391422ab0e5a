-- What the reader holds of the bytes so far.
use Rattle.std.specs.Prelude.{◌≡◌, ℕ, nat_lt, List, length, take}
use Rattle.gdb_packets.specs.declared.TheConstants.{PAYLOAD_MAX}
use Rattle.gdb_packets.specs.declared.reader.Reader.{Reader}
use Rattle.gdb_packets.specs.declared.reader.Told as outcome
use Rattle.gdb_packets.specs.declared.reader.Told.TheVariants as outcomes
use Rattle.gdb_packets.specs.declared.reader.Stage.TheVariants as stages
use Rattle.gdb_packets.specs.Frames.{Standing, Between, Body, Sum, Digit, Event, Nothing, Packet, Broken, Interrupt}
use Rattle.gdb_packets.specs.Frames.{Again}
use Rattle.gdb_packets.specs.Frames.{checksum, is_cut, unescaped}

-- the payload of the frame that was read last
abbrev pub payload_of : Reader → List ℕ
payload_of reader = reader.payload.items

-- what it answers, with the payload of a packet
abbrev pub event_of : outcome.Told → List ℕ → Event
event_of outcomes.Nothing payload = Nothing
event_of outcomes.Packet payload = Packet payload
event_of outcomes.Broken payload = Broken
event_of outcomes.Interrupt payload = Interrupt
event_of outcomes.Again payload = Again

-- it holds a payload as far as one may go, and whether it goes on
pub record Keeps (whole : List ℕ) (reader : Reader) : Type 0 where
  pub front : reader.payload.items ≡ take PAYLOAD_MAX whole
  pub long : reader.long ≡ nat_lt PAYLOAD_MAX (length whole)

-- it holds what has to be known of a body: its sum, whether a `}` waits for its byte, and the payload
pub record Holds (body : List ℕ) (reader : Reader) : Type 0 where
  pub sum : reader.sum ≡ checksum body
  pub cut : reader.cut ≡ is_cut body
  pub payload : Keeps (unescaped body) reader

-- the reader stands so
abbrev pub IsAt : Standing → Reader → Type 0
IsAt Between reader = reader.stage ≡ stages.Between
IsAt (Body body) reader = (reader.stage ≡ stages.Body) × Holds body reader
IsAt (Sum body) reader = (reader.stage ≡ stages.Sum) × Holds body reader
IsAt (Digit body high) reader = (reader.stage ≡ stages.Digit high) × Holds body reader
