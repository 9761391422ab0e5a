use Rattle.clock_core.proofs.MergedClocks.{get_or-merged}
use Rattle.clock_core.proofs.laws.counts_law.Goals as goal

pub returns-clause-merged : goal.returns-clause-merged
returns-clause-merged c = get_or-merged
