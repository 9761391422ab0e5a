use Rattle.core_runs.proofs.RunSteps.{stored_whole}
use Rattle.core_runs.proofs.running.leave.Goals as goal

pub returns-in-Word : goal.returns-in-Word
returns-in-Word g c =
    stored_whole g.R.Reach.told g.R.Reach.refused c.args.reach.now c.store.new.self c.args.watch.now c.store.new.watch
    c.args.at c.args.width c.args.address c.args.value c.store.result c.in-Word.is c.ranges.value.fits
    c.requires.aligned c.store.ensures
