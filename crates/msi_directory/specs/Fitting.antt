-- What every stage keeps: the cores that it names exist, and a set that it keeps isn't empty.
use Rattle.std.specs.Prelude.{ℕ, Bool, true, ◌&&◌, not, nat_lt}
use Rattle.rtr_types.specs.declared.TheConstants.{CORES_MAX}
use Rattle.rtr_types.specs.declared.core_set.CoreSet.{CoreSet}
use Rattle.rtr_types.specs.CoreSets.{is_below, is_none}
use Rattle.msi_directory.specs.declared.entry.Stage.{Stage}
use Rattle.msi_directory.specs.declared.entry.Stage.TheVariants.{Unshared, Shared, Owned, Acks, Data}

-- a set of some cores, all below the greatest number of cores
abbrev pub set_fits : CoreSet → Bool
set_fits set = not (is_none set) && is_below set

abbrev pub core_fits : ℕ → Bool
core_fits core = nat_lt core CORES_MAX

abbrev pub stage_fits : Stage → Bool
stage_fits Unshared = true
stage_fits (Shared by) = set_fits by
stage_fits (Owned owner) = core_fits owner
stage_fits (Acks «of» requester) = set_fits «of» && core_fits requester
stage_fits (Data «of» requester share) = core_fits «of» && core_fits requester
