use Rattle.std.proofs.Common.{rules}
use Rattle.access_times.proofs.KeptReads.{first_there}
use Rattle.online_reduce.proofs.SetReads.{none_before}
use Rattle.online_reduce.proofs.live_reads.first_of.Goals as goal

pub returns-clause-there : goal.returns-clause-there
returns-clause-there c = first_there c.args.cores (search rules) c.requires

pub returns-clause-first : goal.returns-clause-first
returns-clause-first c = none_before c.args.cores (search rules) c.requires
