use Rattle.tso_records.proofs.TimedRuns.{next_told}
use Rattle.tso_records.proofs.laws.what_is_told_is_awaited.Goals as goal

pub returns : goal.returns
returns c = next_told
