-- One byte heard, and one packet answered.
use Rattle.std.specs.Prelude.{◌≡◌, ◌⊎◌, ℕ, Bool, true, false, List, []}
use Rattle.gdb_packets.specs.Frames.{Event, tells}
use Rattle.gdb_packets.specs.Lines.{Shows, Wire, payload_in}
use Rattle.gdb_packets.specs.Readers.{event_of}
use Rattle.gdb_packets.specs.declared.line.Line.{Line}
use Rattle.gdb_packets.specs.declared.reader.Told as outcome
use Rattle.gdb_packets.specs.declared.reader.Told.TheVariants as told_as
use Rattle.gdb_server.specs.declared.partner.Answer.{Answer}
use Rattle.gdb_server.specs.declared.partner.Next.{Next}
use Rattle.gdb_server.specs.Sessions.{LeadsInPart, LeadsTo, Side}
use Rattle.gdb_server.specs.Wires.{behind_answer, behind_byte, frames, heard_at, is_last}
use Rattle.gdb_server.specs.Words.{IsFront, Word, saying}

-- nothing was heard or said
pub record HearsNothing {C : Type 0} (passed : C → List Word → C → Type 0) (wire : Wire) (line : Line) (old new : C)
    : Type 0 where
  pub nothing : passed old [] new
  pub shows : Shows wire line

-- a byte was heard, it told this, and what has to be said at once was said behind it
pub record Hears {C : Type 0} (passed : C → List Word → C → Type 0) (wire : Wire) (told : outcome.Told) (line : Line)
    (old new : C) : Type 0 where
  pub byte : ℕ
  pub told_is : event_of told (payload_in line) ≡ tells wire.at byte
  pub passed_is : passed old (heard_at wire byte) new
  pub shows : Shows (behind_byte wire byte) line

-- the partner answered a packet, the frames of its answer were said, and this is to be done next
pub record SaysAnswer {P C : Type 0} (answers : P → List ℕ → P → Answer → Type 0)
    (passed : C → List Word → C → Type 0) (wire : Wire) (partner : P) (payload : List ℕ) (partner' : P) (next : Next)
    (line : Line) (old new : C) : Type 0 where
  pub answer : Answer
  pub answered : answers partner payload partner' answer
  pub next_is : next ≡ answer.next
  pub passed_is : passed old (saying (frames answer.payloads)) new
  pub shows : Shows (behind_answer wire answer) line

-- a packet has come
abbrev pub is_packet : outcome.Told → Bool
is_packet told_as.Packet = true
is_packet told_as.Nothing = false
is_packet told_as.Broken = false
is_packet told_as.Interrupt = false
is_packet told_as.Again = false

-- what an event leads to was done and said, and this is to be done next
pub record Follows {P C : Type 0} (answers : P → List ℕ → P → Answer → Type 0) (interrupts : P → P → Type 0)
    (passed : C → List Word → C → Type 0) (wire : Wire) (partner : P) (event : Event) (partner' : P) (next : Next)
    (line : Line) (old new : C) : Type 0 where
  pub to : Side P
  pub more : List ℕ
  pub leads : LeadsTo answers interrupts wire partner event more to
  pub partner_is : to.partner ≡ partner'
  pub over_is : to.over ≡ is_last next
  pub shows : Shows to.wire line
  pub passed_is : passed old (saying more) new

-- of a byte, and what has to be said at once behind it, a front passed
pub record HearsInPart {C : Type 0} (passed : C → List Word → C → Type 0) (wire : Wire) (old new : C) : Type 0 where
  pub byte : ℕ
  pub part : List Word
  pub front : IsFront part (heard_at wire byte)
  pub passed_is : passed old part new

-- nothing was said of what an event leads to, or a front
abbrev pub FollowsInPart : {P C : Type 0} → (answers : P → List ℕ → P → Answer → Type 0) (interrupts : P → P → Type 0)
    (passed : C → List Word → C → Type 0) → Wire → P → Event → (old new : C) → Type 0
FollowsInPart answers interrupts passed wire partner event old new =
    passed old [] new
    ⊎ ((part : List Word) × LeadsInPart answers interrupts wire partner event part × passed old part new)
