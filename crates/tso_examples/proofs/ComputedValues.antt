-- Each value is computed.
use Rattle.std.proofs.Common.{refl}
use Rattle.rv_core.specs.StoreMask.{store_mask}
use Rattle.msi_examples.proofs.ComputedSteps.{executing}
use Rattle.tso_examples.specs.Examples.{BothLogged, BytesBuffered, MixedEnds, OneLogged, OwnStoreSeen, SumsInTurn}

-- all examples
pub record AllSo : Type 0 where
  pub both_logged : BothLogged
  pub one_logged : OneLogged
  pub own_store_seen : OwnStoreSeen
  pub bytes_buffered : BytesBuffered
  pub sums_in_turn : SumsInTurn
  pub mixed_ends : MixedEnds

pub all_so : AllSo
unfolding executing store_mask
all_so =
    record {
      both_logged = record { ends = refl; not_before = refl; leaves = refl; finds = refl; logs = refl; orders = refl };
      one_logged = record { ends = refl; not_before = refl; leaves = refl; finds = refl; logs = refl; orders = refl };
      own_store_seen =
          record { ends = refl; not_before = refl; leaves = refl; finds = refl; logs = refl; orders = refl };
      bytes_buffered =
          record { ends = refl; not_before = refl; leaves = refl; finds = refl; logs = refl; orders = refl };
      sums_in_turn = record { ends = refl; not_before = refl; leaves = refl; finds = refl; logs = refl; orders = refl };
      mixed_ends = record { ends = refl; not_before = refl; leaves = refl; finds = refl; logs = refl; orders = refl };
    }
