use Rattle.std.proofs.Common.{◌∙◌, sym, ap}
use Rattle.state_text.specs.Exits.{status_of}
use Rattle.rtr_program.proofs.AnswerLemmas.{is_answer}
use Rattle.rtr_program.proofs.program.conclude.Goals as goal
use Rattle.rtr_program.proofs.program.conclude.Goals.{in-Ok, in-Err}

pub returns-clause-answered : goal.returns-clause-answered
returns-clause-answered g c = elim c.match-words.branch [
  | in-Ok w ↦
      let e = w.run_tool-exit.ensures in
      rw w.in-Ok.is (rw w.input-is (rw w.output-is (rw w.report-is (
        w.run_tool-exit.result.exit,
        record {
          status_is = c.from.ensures ∙ c.status.ensures ∙ ap status_of w.exit-is;
          tells = e.told;
        },
        rw (sym w.as_slice.ensures.value)
            (is_answer _ _ _ _ _ _ _ _ _ _ e.usage e.untouched e.answered e.read_fault e.no_read_fault
            e.write_fault e.no_write_fault e.untaken e.complete),
      ))))
  | in-Err w ↦ rw w.in-Err.is tt
]
