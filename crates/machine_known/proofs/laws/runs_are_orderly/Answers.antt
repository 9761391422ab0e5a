use Rattle.machine_known.proofs.KnownRuns.{run_links_law, run_orderly_law, run_retires_law}
use Rattle.machine_known.proofs.laws.runs_are_orderly.Goals as goal

pub returns : goal.returns
returns c = record { orderly = run_orderly_law; retires = run_retires_law; links = run_links_law }
