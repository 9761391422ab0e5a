use Rattle.std.proofs.Common.{ℕ, subst}
use Rattle.replay_table.specs.Aheads.{AreLocal}
use Rattle.replay_table.specs.Seats.{Past}
use Rattle.replay_table.proofs.LocalRuns.{run_local}
use Rattle.replay_table.proofs.past.Past.run.Goals as goal

pub returns-clause-core : goal.returns-clause-core
returns-clause-core g c =
    subst (λ (p : Past). (n : ℕ) × AreLocal c.args.program.now n p.core c.run-ran.new.core) c.self.view_is
    (run_local _ _ c.args.program.now c.args.until _ c.run-ran.result _ c.run-ran.ensures
    (λ r w at used old new s v told. told.0))
