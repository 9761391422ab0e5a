use Rattle.std.proofs.Common.{refl}
use Rattle.access_times.specs.Times.{fresh_times}
use Rattle.access_times.proofs.times.TimesRider.fresh.Goals as goal

pub returns : goal.returns
unfolding fresh_times
returns c = rw (c.none.ensures, c.none-2.ensures, c.none-3.ensures, c.none-4.ensures) refl
