use Rattle.run_records.proofs.KnownRuns.{known_counted}
use Rattle.run_records.proofs.laws.the_notes_count_what_is_known.Goals as goal

pub returns : goal.returns
returns c = known_counted
