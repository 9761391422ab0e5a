-- The run of the example, followed.
use Rattle.std.proofs.Common.{refl}
use Rattle.rtr_types.specs.CoreSets.{has, with_core, without_core}
use Rattle.msi_protocol.specs.Block.{block_run, block_start}
use Rattle.msi_protocol.specs.Example.{store_then_load, store_again, BothShare, FirstOwns}

pub both_share : BothShare (block_run store_then_load block_start)
unfolding has with_core without_core
both_share = record { stage = refl; first = refl; second = refl }

pub first_owns : FirstOwns (block_run store_again (block_run store_then_load block_start))
unfolding has with_core without_core
first_owns = record { stage = refl; first = refl; second = refl }
