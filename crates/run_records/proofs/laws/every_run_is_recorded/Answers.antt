use Rattle.run_records.proofs.RecordedRun.{records_law}
use Rattle.run_records.proofs.laws.every_run_is_recorded.Goals as goal

pub returns : goal.returns
returns c = records_law
