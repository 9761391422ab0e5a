-- The cores of a set, in order.
use Rattle.std.specs.Prelude.{ℕ, List}
use Rattle.std.specs.List.{filter, range_with_len}
use Rattle.rtr_types.specs.CoreSets.{has}
use Rattle.rtr_types.specs.declared.TheConstants.{CORES_MAX}
use Rattle.rtr_types.specs.declared.core_set.CoreSet.{CoreSet}

abbrev pub members : CoreSet → List ℕ
members set = filter (has set) (range_with_len 0 CORES_MAX)
