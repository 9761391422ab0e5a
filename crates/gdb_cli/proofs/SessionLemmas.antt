-- What a session's exit says of the recording. Each way to end is put together from what was greeted, read and said.
use Rattle.std.proofs.Common.{◌≡◌, ℕ, List, [], Result, Ok, Err, IfErr, OnErr, OnOk, inl, inr, refl, sym}
use Rattle.std.proofs.lemmas.List.{append-nil}
use Rattle.std.specs.Prelude.{Option, Some, None}
use Rattle.gdb_packets.specs.declared.line.Line.{Line}
use Rattle.gdb_packets.specs.Lines.{Wire}
use Rattle.gdb_server.specs.Sessions.{GreetsInPart, GreetsSome, Talked, TalkedInPart}
use Rattle.gdb_server.specs.Wires.{heard_at}
use Rattle.gdb_session.specs.Answers.{AnswersPacket}
use Rattle.gdb_session.specs.Seats.{Begins, Seat, interrupted}
use Rattle.replay_audit.specs.Audits.{Findings}
use Rattle.rtr_types.specs.declared.pairs.Which.{Which}
use Rattle.rtr_cli.specs.Answers.{Answers as AnswersCommand, IsTaken, IsTakenUpTo}
use Rattle.rtr_cli.specs.Inputs.{most_of}
use Rattle.rtr_cli.specs.Commands.{Refuses}
use Rattle.rtr_cli.specs.Completeness.{Accepts, EndsWell, HasLeft}
use Rattle.rtr_cli.proofs.CompletenessLemmas.{lacks_memory}
use Rattle.rtr_cli.proofs.RefusalLemmas.{refused_answers}
use Rattle.state_text.specs.declared.exit.Exit.{Exit}
use Rattle.state_text.specs.declared.exit.Exit.TheVariants as exits
use Rattle.gdb_cli.specs.Sessions.{Converses, ConversesInPart, Debugs, DebugsStreams, Declines, IsHeld}
use Rattle.gdb_cli.specs.Sessions.{IsInPart, Stream, first_wire}
use Rattle.gdb_cli.specs.Sessions.{replayed_by, streams_passed}
use Rattle.gdb_server.specs.Words.{StreamsPassed, Word}
use Rattle.std.specs.Io.KnownBytes.{IsAtEnd}

-- what `replay` gives nothing for has no session
declines : (which : Which) (input : List ℕ) (exit : Exit) (file file' : Option (List ℕ))
    → Refuses (replayed_by which) input exit → AnswersCommand (replayed_by which) exit file file' None None
    → Declines which exit file file'
declines which input exits.Done file file' h it = absurd h
declines which input exits.WriteFault file file' h it = absurd h
declines which input exit file file' h it = it

pub refused_declines : (which : Which) (input : List ℕ) (exit : Exit) (file file' : Option (List ℕ))
    → IsTaken (most_of (replayed_by which)) file file' input → Refuses (replayed_by which) input exit
    → Declines which exit file file'
refused_declines which input exit file file' was h =
    declines which input exit file file' h
    (refused_answers (replayed_by which) input exit file file' None None was h tt)

-- and of a recording that `replay` accepts memory ran out
pub lacked : {A : Type 0} (result : Result A Exit) (which : Which) (file file' : Option (List ℕ))
    (bytes input : List ℕ) → HasLeft (most_of (replayed_by which)) file bytes → Accepts (replayed_by which) bytes
    → IsTaken (most_of (replayed_by which)) file file' input → IfErr result (Refuses (replayed_by which) input)
    → IfErr result EndsWell
lacked (Ok a) which file file' bytes input is accepts was refused = tt
lacked (Err exit) which file file' bytes input is accepts was refused =
    lacks_memory (replayed_by which) exit file file' bytes input is accepts was refused

-- what was taken of a recording that was read to its end
pub taken_whole : (most : Option ℕ) (old new : Option (List ℕ)) (bytes : List ℕ) → IsTaken most old new bytes
    → IsTakenUpTo most old new
taken_whole None old new bytes taken = taken.0
taken_whole (Some most) old new bytes taken = (bytes, taken.within, taken.taken)

-- the whole greeting is a front of itself
pub greeted_in_part : {wire : Wire} {line : Line} {passed : List Word → Type 0} → GreetsSome wire line passed
    → GreetsInPart wire passed
greeted_in_part g = record {
  heard = g.heard;
  words = g.words;
  behind = g.before;
  is_said = g.is_said;
  byte = g.byte;
  part = heard_at g.before g.byte;
  front = ([], sym (append-nil (heard_at g.before g.byte)));
  passed_is = g.passed_is;
}

-- nothing passed
pub greeted_not : {wire : Wire} {passed : List Word → Type 0} → passed [] → GreetsInPart wire passed
greeted_not {wire = wire} nothing = record {
  heard = [];
  words = [];
  behind = wire;
  is_said = (refl, refl);
  byte = 0;
  part = [];
  front = (heard_at wire 0, refl);
  passed_is = nothing;
}

-- behind the first packet the session ends so
pub declined : {C : Type 0} (passed : C → List Word → C → Type 0) (which : Which) (exit : Exit)
    (file file' : Option (List ℕ)) (old new : C) (over : Type 0) (line : Line)
    → GreetsSome first_wire line (λ words. passed old words new) → Declines which exit file file'
    → Debugs passed which exit file file' old new over
declined passed which exits.Done file file' old new over line greeted it = absurd it
declined passed which exits.WriteFault file file' old new over line greeted it = absurd it
declined passed which exits.Usage file file' old new over line greeted it = absurd it
declined passed which exits.ReadFault file file' old new over line greeted it = (it.0, inl (greeted_in_part greeted))
declined passed which exits.OutOfMemory file file' old new over line greeted it =
    (it.0, inl (greeted_in_part greeted))
declined passed which exit file file' old new over line greeted it =
    record { line = line; greeted = greeted; declines = it }

-- a session that begins so and talks to its end
pub conversed : {E : Type 0} (result : Result Unit E) (a : Findings) (first last : Seat) (wire : Wire)
    (payload : List ℕ) (passed : List Word → Type 0) (over : Type 0) → Begins a first
    → OnOk result (Talked AnswersPacket (λ old new. new ≡ interrupted old) wire first payload last passed over)
    → OnOk result (Converses a wire payload passed over)
conversed (Ok done) a first last wire payload passed over begins talked =
    record { first = first; last = last; begins = begins; talked = talked }
conversed (Err fault) a first last wire payload passed over begins talked = tt

-- or broke off
pub conversed_in_part : {E : Type 0} (result : Result Unit E) (a : Findings) (first : Seat) (wire : Wire)
    (payload : List ℕ) (passed : List Word → Type 0) → Begins a first
    → OnErr result (TalkedInPart AnswersPacket (λ old new. new ≡ interrupted old) wire first payload passed)
    → OnErr result (ConversesInPart a wire payload passed)
conversed_in_part (Ok done) a first wire payload passed begins talked = tt
conversed_in_part (Err fault) a first wire payload passed begins talked = inr (first, begins, talked)

-- ---- over two streams

module _ {C : Type 0} (left got : C → Option (List ℕ)) where
  abbrev by_streams : C → List Word → C → Type 0
  by_streams old words new = StreamsPassed (left old) (left new) (got old) (got new) words

  abbrev stream : C → Stream
  stream c = record { left = left c; got = got c }

  greeted_so : (old new : C) (line : Line) → GreetsSome first_wire line (λ words. by_streams old words new)
      → GreetsSome first_wire line (λ words. streams_passed (stream old) words (stream new))
  greeted_so old new line g = record {
    heard = g.heard;
    words = g.words;
    before = g.before;
    is_said = g.is_said;
    byte = g.byte;
    ends = g.ends;
    shows = g.shows;
    passed_is = g.passed_is;
  }

  held_so : (which : Which) (file file' : Option (List ℕ)) (old new : C)
      → IsHeld by_streams which file file' old new (IsAtEnd (left new))
      → IsHeld streams_passed which file file' (stream old) (stream new) (IsAtEnd (left new))
  unfolding greeted_so
  held_so which file file' old new h = record {
    line = h.line;
    behind = stream h.behind;
    greeted = greeted_so old h.behind h.line h.greeted;
    findings = h.findings;
    audited = h.audited;
    session = h.session;
  }

  in_part_so : (which : Which) (file file' : Option (List ℕ)) (old new : C)
      → IsInPart by_streams which file file' old new
      → IsInPart streams_passed which file file' (stream old) (stream new)
  unfolding greeted_so
  in_part_so which file file' old new (inl g) =
      inl (record {
        heard = g.heard;
        words = g.words;
        behind = g.behind;
        is_said = g.is_said;
        byte = g.byte;
        part = g.part;
        front = g.front;
        passed_is = g.passed_is;
      })
  in_part_so which file file' old new (inr h) =
      inr (record {
        line = h.line;
        behind = stream h.behind;
        greeted = greeted_so old h.behind h.line h.greeted;
        findings = h.findings;
        audited = h.audited;
        session = h.session;
      })

  pub over_streams : (which : Which) (exit : Exit) (file file' : Option (List ℕ)) (old new : C)
      → Debugs by_streams which exit file file' old new (IsAtEnd (left new))
      → DebugsStreams which exit file file' (left old) (left new) (got old) (got new)
  over_streams which exits.Done file file' old new (inl none) =
      inl (record { greeted = none.greeted; untouched = none.untouched })
  over_streams which exits.Done file file' old new (inr held) = inr (held_so which file file' old new held)
  over_streams which exits.ReadFault file file' old new it = (it.0, in_part_so which file file' old new it.1)
  over_streams which exits.WriteFault file file' old new it = (it.0, in_part_so which file file' old new it.1)
  over_streams which exits.OutOfMemory file file' old new it = (it.0, in_part_so which file file' old new it.1)
  over_streams which exit file file' old new it =
      record { line = it.line; greeted = greeted_so old new it.line it.greeted; declines = it.declines }
