use Rattle.std.proofs.Common.{rules}
use Rattle.access_times.proofs.KeptReads.{first_there}
use Rattle.access_times.proofs.reads.first_of.Goals as goal

pub returns-clause-there : goal.returns-clause-there
returns-clause-there c = first_there c.args.readers (search rules) c.requires
