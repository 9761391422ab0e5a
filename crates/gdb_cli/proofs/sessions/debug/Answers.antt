use Rattle.std.proofs.Common.{inl, inr}
use Rattle.gdb_server.specs.Wires.{behind_byte}
use Rattle.gdb_cli.proofs.AnswerLemmas.{keeps}
use Rattle.gdb_cli.proofs.SessionLemmas.{declined, greeted_not, taken_whole}
use Rattle.rtr_cli.specs.Answers.{one_more}
use Rattle.rtr_cli.specs.Inputs.{most_of}
use Rattle.rtr_cli.proofs.RefusalLemmas.{none_taken, taken_up_to}
use Rattle.gdb_cli.specs.Sessions.{first_wire, replayed_by}
use Rattle.gdb_cli.proofs.sessions.debug.Goals as goal

pub returns-in-Ok-false-clause-answered : goal.returns-in-Ok-false-clause-answered
returns-in-Ok-false-clause-answered g c =
    inl (record {
      greeted = rw c.in-Ok-false.field-0-test at (c.in-Ok-false.ensures.greeted first_wire c.in-Ok.ensures);
      untouched = keeps (g.F.Source.left c.args.recording.now);
    })

pub returns-in-Err-audited_in-clause-answered : goal.returns-in-Err-audited_in-clause-answered
returns-in-Err-audited_in-clause-answered g c =
    declined g.C.Conversation.passed c.args.which c.in-Err-audited_in.exit (g.F.Source.left c.args.recording.now)
    (g.F.Source.left c.audited_in.new.source) c.args.conversation.now c.greet.new.conversation
    (g.C.Conversation.is_over c.greet.new.conversation) c.greet.new.line
    (rw c.in-Ok-true.field-0-test at (c.in-Ok-true.ensures.greeted first_wire c.in-Ok.ensures))
    c.in-Err-audited_in.ensures.declined

pub returns-in-Err-audited_in-clause-complete : goal.returns-in-Err-audited_in-clause-complete
returns-in-Err-audited_in-clause-complete g c = λ bytes is accepts opened read written.
    c.in-Err-audited_in.ensures.complete bytes is accepts opened

pub returns-in-Ok-converse-clause-answered : goal.returns-in-Ok-converse-clause-answered
returns-in-Ok-converse-clause-answered g c =
    let greeted = rw c.in-Ok-true.field-0-test at (c.in-Ok-true.ensures.greeted first_wire c.in-Ok.ensures) in
    inr (record {
      line = c.greet.new.line;
      behind = c.greet.new.conversation;
      greeted = greeted;
      findings = c.in-Ok-audited_in.audited;
      audited = c.in-Ok-audited_in.ensures.audited;
      session = c.in-Ok-converse.ensures.conversed (behind_byte greeted.before greeted.byte) greeted.shows;
    })

-- ---- it broke off

pub returns-in-Err-clause-answered : goal.returns-in-Err-clause-answered
returns-in-Err-clause-answered g c = (
  none_taken (one_more (most_of (replayed_by c.args.which))) (g.F.Source.left c.args.recording.now),
  inl (greeted_not (g.C.Conversation.nothing c.args.conversation.now)),
)

pub returns-in-Err-ReadFault-clause-answered : goal.returns-in-Err-ReadFault-clause-answered
returns-in-Err-ReadFault-clause-answered g c = (
  none_taken (most_of (replayed_by c.args.which)) (g.F.Source.left c.args.recording.now),
  inl (c.in-Err-ReadFault.ensures.broken first_wire c.in-Ok.ensures),
)

pub returns-in-Err-WriteFault-clause-answered : goal.returns-in-Err-WriteFault-clause-answered
returns-in-Err-WriteFault-clause-answered g c = (
  none_taken (most_of (replayed_by c.args.which)) (g.F.Source.left c.args.recording.now),
  inl (c.in-Err-WriteFault.ensures.broken first_wire c.in-Ok.ensures),
)

pub returns-in-Err-OutOfMemory-clause-answered : goal.returns-in-Err-OutOfMemory-clause-answered
returns-in-Err-OutOfMemory-clause-answered g c = (
  none_taken (one_more (most_of (replayed_by c.args.which))) (g.F.Source.left c.args.recording.now),
  inl (c.in-Err-OutOfMemory.ensures.broken first_wire c.in-Ok.ensures),
)

pub returns-in-Err-ReadFault-converse-clause-answered : goal.returns-in-Err-ReadFault-converse-clause-answered
returns-in-Err-ReadFault-converse-clause-answered g c =
    let greeted = rw c.in-Ok-true.field-0-test at (c.in-Ok-true.ensures.greeted first_wire c.in-Ok.ensures) in
    let audited = c.in-Ok-audited_in.ensures.audited in (
      taken_whole (most_of (replayed_by c.args.which)) _ _ audited.bytes audited.read,
      inr (record {
        line = c.greet.new.line;
        behind = c.greet.new.conversation;
        greeted = greeted;
        findings = c.in-Ok-audited_in.audited;
        audited = audited;
        session = c.in-Err-ReadFault-converse.ensures.broken (behind_byte greeted.before greeted.byte) greeted.shows;
      }),
    )

pub returns-in-Err-WriteFault-converse-clause-answered : goal.returns-in-Err-WriteFault-converse-clause-answered
returns-in-Err-WriteFault-converse-clause-answered g c =
    let greeted = rw c.in-Ok-true.field-0-test at (c.in-Ok-true.ensures.greeted first_wire c.in-Ok.ensures) in
    let audited = c.in-Ok-audited_in.ensures.audited in (
      taken_whole (most_of (replayed_by c.args.which)) _ _ audited.bytes audited.read,
      inr (record {
        line = c.greet.new.line;
        behind = c.greet.new.conversation;
        greeted = greeted;
        findings = c.in-Ok-audited_in.audited;
        audited = audited;
        session = c.in-Err-WriteFault-converse.ensures.broken (behind_byte greeted.before greeted.byte) greeted.shows;
      }),
    )

pub returns-clause-answered : goal.returns-clause-answered
returns-clause-answered g c =
    let greeted = rw c.in-Ok-true.field-0-test at (c.in-Ok-true.ensures.greeted first_wire c.in-Ok.ensures) in
    let audited = c.in-Ok-audited_in.ensures.audited in (
      taken_up_to (most_of (replayed_by c.args.which)) _ _ audited.bytes audited.read,
      inr (record {
        line = c.greet.new.line;
        behind = c.greet.new.conversation;
        greeted = greeted;
        findings = c.in-Ok-audited_in.audited;
        audited = audited;
        session = c.in-Err-OutOfMemory-converse.ensures.broken (behind_byte greeted.before greeted.byte) greeted.shows;
      }),
    )
