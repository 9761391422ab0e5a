use Rattle.std.proofs.Common.{◌∙◌, sym, ap}
use Rattle.state_text.specs.Exits.{status_of}
use Rattle.gdb_cli.proofs.program.conclude.Goals as goal
use Rattle.gdb_cli.proofs.program.conclude.Goals.{in-Ok, in-Err}

pub returns-clause-answered : goal.returns-clause-answered
returns-clause-answered g c = elim c.match-words.branch [
  | in-Ok w ↦
      let e = w.run_debugger-exit.ensures in
      rw w.in-Ok.is (rw w.streams-is (rw w.report-is (
        w.run_debugger-exit.result,
        record {
          status_is = c.from.ensures ∙ c.status.ensures ∙ ap status_of w.exit-is;
          tells = e.told;
        },
        rw (sym w.as_slice.ensures.value) e.answered,
      )))
  | in-Err w ↦ rw w.in-Err.is tt
]
