use Rattle.std.proofs.Common.{map, string_bytes}
use Rattle.std.specs.Fn.{FnOnceReturnsAt}
use Rattle.gdb_cli.specs.Words.{session_log}
use Rattle.gdb_cli.proofs.WordLemmas.{core_answers, memory_answers, session_answers}
use Rattle.gdb_cli.proofs.debugger.run_debugger.Goals as goal
use Rattle.gdb_cli.proofs.debugger.run_debugger.Goals.{in-Ok-Some, in-Err}

pub returns-in-Ok-None-clause-answered : goal.returns-in-Ok-None-clause-answered
returns-in-Ok-None-clause-answered g c =
    let is = rw c.in-Ok-None.field-0-is at c.in-Ok-None.ensures in
    let e = c.write_core.ensures in
    core_answers (FnOnceReturnsAt g.P.FnOnce c.args.opener) g.F.Source.left g.F.Source.faults
    (map string_bytes c.args.words.now) (session_log (map string_bytes c.args.words.now)) c.write_core.result
    (g.I.Source.left c.args.streams.now.input) (g.I.Source.left c.write_core.new.input) (g.O.Sink.got
    c.args.streams.now.output)
    (g.O.Sink.got c.write_core.new.output) (g.I.Source.faults c.args.streams.now.input)
    (g.I.Source.faults c.write_core.new.input) (g.O.Sink.faults c.args.streams.now.output)
    (g.O.Sink.faults c.write_core.new.output) is (record {
      answers = e.answered;
      read_fault = e.read_fault;
      no_read_fault = e.no_read_fault;
      write_fault = e.write_fault;
      no_write_fault = e.no_write_fault;
      complete = e.complete;
    })

pub returns-clause-answered : goal.returns-clause-answered
returns-clause-answered g c =
    let opens = FnOnceReturnsAt g.P.FnOnce c.args.opener in
    let words = map string_bytes c.args.words.now in
    elim c.match-session_log.branch [
      | in-Ok-Some w ↦
          let is = rw w.in-Ok-Some.field-0-is at w.in-Ok-Some.ensures in
          let e = w.debug_file-exit.ensures in
          rw w.exit-is (rw w.streams-is (
          session_answers opens g.F.Source.left g.F.Source.faults words (session_log words) _ _ _ _ _ _ _ _ _ _ is e.0
          (rw w.file_name.ensures at e.1) e.2))
      | in-Err w ↦ rw w.exit-is (rw w.streams-is (
          memory_answers opens g.F.Source.left g.F.Source.faults words (session_log words) _ _ _ _))
    ]
