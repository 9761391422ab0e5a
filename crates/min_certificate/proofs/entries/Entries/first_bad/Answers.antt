use Rattle.std.proofs.Common.{arith}
use Rattle.min_certificate.proofs.First.{good_of_all}
use Rattle.min_certificate.proofs.entries.Entries.first_bad.Goals as goal

pub returns : goal.returns
returns c = good_of_all c.args.self.now c.loop-core.core c.cores-core-end.ensures.valid
    (omega (arith, c.loop-core-test.false, c.cores-core-end.ensures.cores)) c.loop-core.invariant
