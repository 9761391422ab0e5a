use Rattle.std.proofs.lemmas.Nat.Bits.{shr_and_one}
use Rattle.rtr_types.specs.CoreSets.{has}
use Rattle.rtr_types.proofs.core_set.CoreSet.has.Goals as goal

pub returns : goal.returns
unfolding has
returns c = rw (shr_and_one c.args.self.bits c.args.core)
