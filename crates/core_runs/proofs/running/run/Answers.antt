use Rattle.core_runs.proofs.RunSteps.{run_of_core}
use Rattle.core_runs.proofs.running.run.Goals as goal

pub returns : goal.returns
returns g c =
    run_of_core g.R.Reach.told g.R.Reach.refused c.args.program.now c.args.until c.args.core.now c.follow-ran.new.head
    c.follow-ran.new.registers c.args.reach.now c.follow-ran.new.reach c.args.watch.now c.follow-ran.new.watch
    c.follow-ran.result
    c.follow-ran.ensures
