use Rattle.std.proofs.Common.{ap}
use Rattle.flat_home.specs.Tellings.{addressee}
use Rattle.flat_home.proofs.tellings.tell.Goals as goal

pub tell_one-requires-clause-there : goal.tell_one-requires-clause-there
tell_one-requires-clause-there c = c.requires.there c.in-Data.to (ap addressee c.in-Data.is)

pub tell_one-requires-in-Ack-clause-there : goal.tell_one-requires-in-Ack-clause-there
tell_one-requires-in-Ack-clause-there c = c.requires.there c.in-Ack.to (ap addressee c.in-Ack.is)

pub tell_one-requires-in-FwdS-clause-there : goal.tell_one-requires-in-FwdS-clause-there
tell_one-requires-in-FwdS-clause-there c = c.requires.there c.in-FwdS.to (ap addressee c.in-FwdS.is)

pub tell_one-requires-in-FwdM-clause-there : goal.tell_one-requires-in-FwdM-clause-there
tell_one-requires-in-FwdM-clause-there c = c.requires.there c.in-FwdM.to (ap addressee c.in-FwdM.is)
