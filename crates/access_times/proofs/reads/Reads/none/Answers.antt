use Rattle.access_times.proofs.KeptReads.{kept_none}
use Rattle.access_times.proofs.reads.Reads.none.Goals as goal

pub returns : goal.returns
returns c = rw c.empty.ensures (kept_none _)
