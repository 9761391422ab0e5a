use Rattle.std.proofs.Common.{arith}
use Rattle.std.proofs.lemmas.Grind.{common_steps}
use Rattle.access_times.specs.Times.{fresh_times}
use Rattle.access_times.proofs.times.TimesRider.forget.Goals as goal

pub returns : goal.returns
unfolding fresh_times
returns c = grind (arith, common_steps)
