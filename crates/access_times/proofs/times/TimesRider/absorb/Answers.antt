use Rattle.std.proofs.Common.{arith}
use Rattle.access_times.proofs.FilledTimes.{slots_filled}
use Rattle.access_times.proofs.times.TimesRider.absorb.Goals as goal

pub returns : goal.returns
returns c =
    slots_filled c.args.self.now c.args.other.now c.loop-slot.self c.loop-slot.slot c.loop-slot.invariant.long
    (omega arith) c.loop-slot.invariant.done
