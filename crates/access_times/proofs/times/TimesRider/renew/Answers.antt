use Rattle.std.proofs.Common.{arith}
use Rattle.access_times.proofs.FilledTimes.{slots_filled}
use Rattle.access_times.proofs.times.TimesRider.renew.Goals as goal

pub returns : goal.returns
returns c =
    slots_filled c.args.other.now c.args.self.now c.loop-slot.self c.loop-slot.slot c.loop-slot.invariant.long
    (omega arith) c.loop-slot.invariant.done
