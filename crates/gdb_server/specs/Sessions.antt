-- Rule: a debugger's session in a conversation: Greets, Talks, Talked, GreetsInPart, TalkedInPart
-- A debugger's session: what is heard byte by byte, and what is said behind each byte, before the next is heard.
use Rattle.std.specs.Prelude.{◌≡◌, ℕ, ◌-◌, ◌^◌, ◌≤◌, ◌⊎◌, Bool, true, false, List, [], ◌∷◌, ◌++◌, length}
use Rattle.gdb_packets.specs.Frames.{Event, Packet, Interrupt, tells}
use Rattle.gdb_packets.specs.Lines.{Shows, Wire, payload_in}
use Rattle.gdb_packets.specs.declared.line.Line.{Line}
use Rattle.gdb_server.specs.declared.partner.Answer.{Answer}
use Rattle.gdb_server.specs.Wires.{behind_answer, behind_byte, frames, heard_at, is_last}
use Rattle.gdb_server.specs.Words.{IsFront, Word, saying}

-- the most bytes that are heard of one session
abbrev pub heard_max : ℕ
heard_max = 2 ^ 64 - 1

-- ---- before the first packet

-- the event is no packet
abbrev pub IsNoPacket : Event → Type 0
IsNoPacket (Packet payload) = ⊥
IsNoPacket event = Unit {0}

-- none of the bytes ends a packet; behind each stands what has to be said at once, and they lead to this wire
abbrev pub IsSaidTo : Wire → (heard : List ℕ) → List Word → Wire → Type 0
IsSaidTo old [] words new = (words ≡ []) × (new ≡ old)
IsSaidTo old (byte ∷ rest) words new =
    IsNoPacket (tells old.at byte)
    × (more : List Word) × IsSaidTo (behind_byte old byte) rest more new
    × (words ≡ heard_at old byte ++ more)

-- bytes were heard to the end of the first packet, which the line tells; in what passed, what has to be said at once
-- stands behind each of them
pub record GreetsSome (wire : Wire) (line : Line) (passed : List Word → Type 0) : Type 0 where
  pub heard : List ℕ
  pub words : List Word
  pub before : Wire
  pub is_said : IsSaidTo wire heard words before
  pub byte : ℕ
  pub ends : tells before.at byte ≡ Packet (payload_in line)
  pub shows : Shows (behind_byte before byte) line
  pub passed_is : passed (words ++ heard_at before byte)

-- bytes were heard to the last one, and none ended a packet
pub record GreetsNobody (wire : Wire) (passed : List Word → Type 0) (over : Type 0) : Type 0 where
  pub heard : List ℕ
  pub words : List Word
  pub behind : Wire
  pub is_said : IsSaidTo wire heard words behind
  pub passed_is : passed words
  pub ends : over ⊎ (heard_max ≤ length heard)

-- it broke off: bytes were heard, none of which ended a packet; and of one more, and what has to be said at once behind
-- it, a front passed
pub record GreetsInPart (wire : Wire) (passed : List Word → Type 0) : Type 0 where
  pub heard : List ℕ
  pub words : List Word
  pub behind : Wire
  pub is_said : IsSaidTo wire heard words behind
  pub byte : ℕ
  pub part : List Word
  pub front : IsFront part (heard_at behind byte)
  pub passed_is : passed (words ++ part)

-- whether a packet came
abbrev pub Greets : Wire → (some : Bool) → Line → (passed : List Word → Type 0) → (over : Type 0) → Type 0
Greets wire true line passed over = GreetsSome wire line passed
Greets wire false line passed over = GreetsNobody wire passed over

-- ---- a session

-- where a session stands: its wire, who answers, and whether it is over
pub record Side (P : Type 0) : Type 0 where
  pub wire : Wire
  pub partner : P
  pub over : Bool

-- behind an event that doesn't concern the partner
abbrev pub listening : {P : Type 0} → Wire → P → Side P
listening wire partner = record { wire = wire; partner = partner; over = false }

module _ {P : Type 0} where
  -- what is said of an event behind what is said at once, and where it leads: a packet is answered, an interrupt is
  -- taken, and nothing else concerns the partner
  abbrev pub LeadsTo : (answers : P → List ℕ → P → Answer → Type 0) (interrupts : P → P → Type 0) → Wire → P → Event
      → (said : List ℕ) → Side P → Type 0
  LeadsTo answers interrupts wire partner (Packet payload) said new =
      (answer : Answer) × answers partner payload new.partner answer × (said ≡ frames answer.payloads)
      × (new.wire ≡ behind_answer wire answer) × (new.over ≡ is_last answer.next)
  LeadsTo answers interrupts wire partner Interrupt said new =
      interrupts partner new.partner × (said ≡ []) × (new.wire ≡ wire) × (new.over ≡ false)
  LeadsTo answers interrupts wire partner event said new = (said ≡ []) × (new ≡ listening wire partner)

  -- a byte is heard in a session that isn't over: what has to be said at once is said, and then what its event leads
  -- to, before another byte is heard
  pub record Turn (answers : P → List ℕ → P → Answer → Type 0) (interrupts : P → P → Type 0) (old : Side P)
      (byte : ℕ) (words : List Word) (new : Side P) : Type 0 where
    pub listens : old.over ≡ false
    pub more : List ℕ
    pub words_are : words ≡ heard_at old.wire byte ++ saying more
    pub leads : LeadsTo answers interrupts (behind_byte old.wire byte) old.partner (tells old.wire.at byte) more new

  -- bytes are heard one after the other
  abbrev pub Talks : (answers : P → List ℕ → P → Answer → Type 0) (interrupts : P → P → Type 0) → Side P
      → (heard : List ℕ) → List Word → Side P → Type 0
  Talks answers interrupts old [] words new = (words ≡ []) × (new ≡ old)
  Talks answers interrupts old (byte ∷ rest) words new =
      (mid : Side P) × (first : List Word) × (more : List Word) × Turn answers interrupts old byte first mid
      × Talks answers interrupts mid rest more new × (words ≡ first ++ more)

  -- a packet was answered, and behind that these bytes were heard, to here
  pub record Talking (answers : P → List ℕ → P → Answer → Type 0) (interrupts : P → P → Type 0) (wire : Wire)
      (partner : P) (payload : List ℕ) (partner' : P) (passed : List Word → Type 0) (heard : List ℕ)
      (to : Side P) : Type 0 where
    pub first : List ℕ
    pub from : Side P
    pub answered : LeadsTo answers interrupts wire partner (Packet payload) first from
    pub words : List Word
    pub talks : Talks answers interrupts from heard words to
    pub partner_is : to.partner ≡ partner'
    pub passed_is : passed (saying first ++ words)

  -- and they were heard to the end: to an answer that ends the session, or to the last byte
  pub record Talked (answers : P → List ℕ → P → Answer → Type 0) (interrupts : P → P → Type 0) (wire : Wire)
      (partner : P) (payload : List ℕ) (partner' : P) (passed : List Word → Type 0) (over : Type 0) : Type 0 where
    pub heard : List ℕ
    pub to : Side P
    pub talking : Talking answers interrupts wire partner payload partner' passed heard to
    pub ends : (to.over ≡ true) ⊎ (over ⊎ (heard_max ≤ length heard))

  -- ---- a session that breaks off

  -- a front of what an event leads to was said
  pub record LeadsInPart (answers : P → List ℕ → P → Answer → Type 0) (interrupts : P → P → Type 0) (wire : Wire)
      (partner : P) (event : Event) (part : List Word) : Type 0 where
    pub said : List ℕ
    pub new : Side P
    pub leads : LeadsTo answers interrupts wire partner event said new
    pub front : IsFront part (saying said)

  -- a front of a turn passed: of what has to be said at once, or of what its event leads to as well
  pub record TurnsInPart (answers : P → List ℕ → P → Answer → Type 0) (interrupts : P → P → Type 0) (old : Side P)
      (part : List Word) : Type 0 where
    pub listens : old.over ≡ false
    pub byte : ℕ
    pub whole : List Word
    pub is_whole : (whole ≡ heard_at old.wire byte) ⊎ ((new : Side P) × Turn answers interrupts old byte whole new)
    pub front : IsFront part whole

  -- a packet was answered, bytes were heard behind it, and of one turn more a front passed
  pub record BreaksOff (answers : P → List ℕ → P → Answer → Type 0) (interrupts : P → P → Type 0) (wire : Wire)
      (partner : P) (payload : List ℕ) (passed : List Word → Type 0) : Type 0 where
    pub heard : List ℕ
    pub partner' : P
    pub to : Side P
    pub part : List Word
    pub talking : Talking answers interrupts wire partner payload partner' (λ words. passed (words ++ part)) heard to
    pub in_turn : TurnsInPart answers interrupts to part

  -- a session broke off: before the first answer, in it, or in a turn behind it
  abbrev pub TalkedInPart : (answers : P → List ℕ → P → Answer → Type 0) (interrupts : P → P → Type 0) → Wire → P
      → (payload : List ℕ) → (passed : List Word → Type 0) → Type 0
  TalkedInPart answers interrupts wire partner payload passed =
      passed []
      ⊎ (((part : List Word) × LeadsInPart answers interrupts wire partner (Packet payload) part × passed part)
      ⊎ BreaksOff answers interrupts wire partner payload passed)
