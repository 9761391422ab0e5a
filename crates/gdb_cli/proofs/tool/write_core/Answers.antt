use Rattle.gdb_cli.proofs.AnswerLemmas.{answers_memory, answers_none, answers_some}
use Rattle.gdb_cli.proofs.tool.write_core.Goals as goal
use Rattle.gdb_cli.proofs.tool.write_core.Goals.{in-Ok-Some, in-Ok-None, in-Err}

pub returns-clause-answered : goal.returns-clause-answered
returns-clause-answered g c = elim c.match-moment_in.branch [
  | in-Ok-Some w ↦
      let is = rw w.in-Ok-Some.field-0-is at w.in-Ok-Some.ensures in
      rw w.exit-is (rw w.input-is (rw w.output-is (answers_some _ _ _ _ _ _ _ is w.give_core-exit.ensures.answered)))
  | in-Ok-None w ↦
      let is = rw w.in-Ok-None.field-0-is at w.in-Ok-None.ensures in
      rw w.exit-is (rw w.input-is (rw w.output-is (answers_none _ _ _ is)))
  | in-Err w ↦ rw w.exit-is (rw w.input-is (rw w.output-is (answers_memory _ _ _)))
]
