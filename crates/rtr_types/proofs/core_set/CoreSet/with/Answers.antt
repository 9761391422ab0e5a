use Rattle.std.proofs.Common.{refl}
use Rattle.rtr_types.specs.CoreSets.{with_core}
use Rattle.rtr_types.proofs.core_set.CoreSet.with.Goals as goal

pub returns : goal.returns
unfolding with_core
returns c = refl
