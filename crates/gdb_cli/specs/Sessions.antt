-- Rule: a debugger's session on a recording, up to an exit: Debugs, IsHeld, IsDeclined, IsInPart
-- A debugger's session on a recording: what is heard and said, and what each way to end says of the recording.
use Rattle.std.specs.Prelude.{◌≡◌, ℕ, ◌⊎◌, false, true, List, [], Option, None}
use Rattle.std.specs.Io.KnownBytes.{IsAtEnd, Keeps}
use Rattle.gdb_packets.specs.Frames.{Between}
use Rattle.gdb_packets.specs.Lines.{Wire, payload_in}
use Rattle.gdb_packets.specs.declared.line.Line.{Line}
use Rattle.gdb_server.specs.Sessions.{GreetsInPart, GreetsNobody, GreetsSome, Talked, TalkedInPart}
use Rattle.gdb_server.specs.Wires.{behind_byte}
use Rattle.gdb_server.specs.Words.{StreamsPassed, Word}
use Rattle.gdb_session.specs.Answers.{AnswersPacket}
use Rattle.gdb_session.specs.Seats.{Begins, Seat, interrupted}
use Rattle.log_codec.specs.Reading.{whole_at}
use Rattle.replay_audit.specs.Audits.{Findings, IsAuditOf}
use Rattle.rtr_types.specs.declared.pairs.Which.{Which}
use Rattle.rtr_cli.specs.Answers.{Answers as AnswersCommand, IsTaken, IsTakenUpTo, one_more}
use Rattle.rtr_cli.specs.Inputs.{SpellsSome, most_of}
use Rattle.rtr_cli.specs.Promises.{Promised}
use Rattle.state_text.specs.declared.exit.Exit.{Exit}
use Rattle.state_text.specs.declared.exit.Exit.TheVariants as exits
use Rattle.tool_words.specs.declared.command.Command.{Command}
use Rattle.tool_words.specs.declared.command.Command.TheVariants.{Replay}

-- the command of `rtr` that replays the recording by the log: what it refuses has no session, for the same reason
abbrev pub replayed_by : Which → Command
replayed_by which = Replay which None false

-- before the first byte: frames are acknowledged, and none was written
abbrev pub first_wire : Wire
first_wire = record { at = Between; acks = true; last = [] }

-- a session on this audited recording, which begins before the first instruction: the first packet is answered, and
-- then each that comes, up to an answer that ends the session or to the end of what is heard
pub record Converses (a : Findings) (wire : Wire) (payload : List ℕ) (passed : List Word → Type 0) (over : Type 0)
    : Type 0 where
  pub first : Seat
  pub last : Seat
  pub begins : Begins a first
  pub talked : Talked AnswersPacket (λ old new. new ≡ interrupted old) wire first payload last passed over

-- it broke off: before it began, or in it
abbrev pub ConversesInPart : (a : Findings) → Wire → (payload : List ℕ) → (passed : List Word → Type 0) → Type 0
ConversesInPart a wire payload passed =
    passed [] ⊎ ((first : Seat) × Begins a first
    × TalkedInPart AnswersPacket (λ old new. new ≡ interrupted old) wire first payload passed)

-- the recording that its source had left was read to its end, it is determinate by the log, and this is its audit
pub record IsAudited (which : Which) (file file' : Option (List ℕ)) (a : Findings) : Type 0 where
  pub bytes : List ℕ
  pub read : IsTaken (most_of (replayed_by which)) file file' bytes
  pub promised : Promised (replayed_by which) bytes
  pub audited : SpellsSome (whole_at bytes) (λ r. IsAuditOf which r a)

-- there is no session on the recording that its source had left, for the reason for which `replay` gives nothing
abbrev pub Declines : Which → Exit → (file file' : Option (List ℕ)) → Type 0
Declines which exits.Done file file' = ⊥
Declines which exits.WriteFault file file' = ⊥
Declines which exit file file' = AnswersCommand (replayed_by which) exit file file' None None

module _ {C : Type 0} where
  -- what was heard ended before the first packet, and the recording wasn't touched
  pub record IsUnasked (passed : C → List Word → C → Type 0) (file file' : Option (List ℕ)) (old new : C)
      (over : Type 0) : Type 0 where
    pub greeted : GreetsNobody first_wire (λ words. passed old words new) over
    pub untouched : Keeps file file'

  -- the first packet was heard and acknowledged, and then there was a session on the recording, which answered it first
  pub record IsHeld (passed : C → List Word → C → Type 0) (which : Which) (file file' : Option (List ℕ)) (old new : C)
      (over : Type 0) : Type 0 where
    pub line : Line
    pub behind : C
    pub greeted : GreetsSome first_wire line (λ words. passed old words behind)
    pub findings : Findings
    pub audited : IsAudited which file file' findings
    pub session : Converses findings (behind_byte greeted.before greeted.byte) (payload_in line)
        (λ words. passed behind words new) over

  -- the first packet was heard and acknowledged, nothing else was heard or said, and there is no session
  pub record IsDeclined (passed : C → List Word → C → Type 0) (which : Which) (exit : Exit)
      (file file' : Option (List ℕ)) (old new : C) : Type 0 where
    pub line : Line
    pub greeted : GreetsSome first_wire line (λ words. passed old words new)
    pub declines : Declines which exit file file'

  -- the first packet was heard and acknowledged, and a session on the recording broke off
  pub record IsHeldInPart (passed : C → List Word → C → Type 0) (which : Which) (file file' : Option (List ℕ))
      (old new : C) : Type 0 where
    pub line : Line
    pub behind : C
    pub greeted : GreetsSome first_wire line (λ words. passed old words behind)
    pub findings : Findings
    pub audited : IsAudited which file file' findings
    pub session : ConversesInPart findings (behind_byte greeted.before greeted.byte) (payload_in line)
        (λ words. passed behind words new)

  -- what passed is a front of what passes in a session: up to the acknowledgement of the first packet, or further
  abbrev pub IsInPart : (passed : C → List Word → C → Type 0) → Which → (file file' : Option (List ℕ)) → (old new : C)
      → Type 0
  IsInPart passed which file file' old new =
      GreetsInPart first_wire (λ words. passed old words new) ⊎ IsHeldInPart passed which file file' old new

  -- what each way to end says of the recording that its source had left, and of what passed in the conversation. At a
  -- fault, and where memory ran out, no more of the recording was taken than `replay` takes, and what passed is a front
  abbrev pub Debugs : (passed : C → List Word → C → Type 0) → Which → Exit → (file file' : Option (List ℕ)) →
      (old new : C) → (over : Type 0) → Type 0
  Debugs passed which exits.Done file file' old new over =
      IsUnasked passed file file' old new over ⊎ IsHeld passed which file file' old new over
  Debugs passed which exits.ReadFault file file' old new over =
      IsTakenUpTo (most_of (replayed_by which)) file file' × IsInPart passed which file file' old new
  Debugs passed which exits.WriteFault file file' old new over =
      IsTakenUpTo (most_of (replayed_by which)) file file' × IsInPart passed which file file' old new
  Debugs passed which exits.OutOfMemory file file' old new over =
      IsTakenUpTo (one_more (most_of (replayed_by which))) file file' × IsInPart passed which file file' old new
  Debugs passed which exit file file' old new over = IsDeclined passed which exit file file' old new

-- ---- over two streams

-- what the one stream has left, and what the other got
pub record Stream : Type 0 where
  pub left : Option (List ℕ)
  pub got : Option (List ℕ)

abbrev pub streams_passed : Stream → List Word → Stream → Type 0
streams_passed old words new = StreamsPassed old.left new.left old.got new.got words

-- the same of a session whose bytes are heard from the one stream and said to the other
abbrev pub DebugsStreams : Which → Exit → (file file' left left' got got' : Option (List ℕ)) → Type 0
DebugsStreams which exit file file' left left' got got' =
    Debugs streams_passed which exit file file' (record { left = left; got = got })
    (record { left = left'; got = got' }) (IsAtEnd left')
