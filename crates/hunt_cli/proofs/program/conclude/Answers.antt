use Rattle.std.proofs.Common.{◌∙◌, sym, ap}
use Rattle.hunt_cli.specs.Statuses.{status_of}
use Rattle.hunt_cli.proofs.HuntEnds.{asked-answers}
use Rattle.hunt_cli.proofs.program.conclude.Goals as goal
use Rattle.hunt_cli.proofs.program.conclude.Goals.{in-Ok, in-Err}

pub returns-clause-answered : goal.returns-clause-answered
returns-clause-answered g c = elim c.match-words.branch [
  | in-Ok w ↦
      let e = w.run_hunt-exit.ensures in
      rw w.in-Ok.is (rw w.input-is (rw w.output-is (rw w.report-is (
        w.run_hunt-exit.result,
        c.from.ensures ∙ c.status.ensures ∙ ap status_of w.exit-is,
        rw (sym w.as_slice.ensures.value) (asked-answers _ _ _ e.idle e.answered),
        e.faults,
      ))))
  | in-Err w ↦ rw w.in-Err.is tt
]
