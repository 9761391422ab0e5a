use Rattle.run_records.proofs.Recordings.{least_log_law, recorded_law, regulated_log_law}
use Rattle.run_records.proofs.laws.every_recording_is_read_back_and_least.Goals as goal

pub returns : goal.returns
returns c = record { recorded = recorded_law; least = least_log_law; regulated = regulated_log_law }
