use Rattle.access_times.proofs.KeptReads.{kept_none}
use Rattle.access_times.proofs.reads.Reads.clear.Goals as goal

pub returns : goal.returns
returns c = rw c.empty-self-inside.ensures (kept_none _)
