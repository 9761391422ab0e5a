use Rattle.std.proofs.Common.{refl}
use Rattle.rtr_types.specs.CoreSets.{without_core}
use Rattle.rtr_types.proofs.core_set.CoreSet.without.Goals as goal

pub returns : goal.returns
unfolding without_core
returns c = refl
