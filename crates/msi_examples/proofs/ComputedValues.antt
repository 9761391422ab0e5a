-- Each value is computed.
use Rattle.std.proofs.Common.{refl}
use Rattle.msi_examples.specs.Examples.{BothBlocksAreHeld, ChoiceDecides, HandedOver, LimitReached, OneHandsOver}
use Rattle.msi_examples.specs.Examples.{PutIsStalled, ReadEightApart, ShareFalsely, StoreBytes, SumInTurn}
use Rattle.msi_examples.proofs.ComputedSteps.{executing}

-- all examples
pub record AllSo : Type 0 where
  pub one_hands_over : OneHandsOver
  pub handed_over_so : HandedOver
  pub share_falsely : ShareFalsely
  pub store_bytes : StoreBytes
  pub sum_in_turn : SumInTurn
  pub choice_decides : ChoiceDecides
  pub put_is_stalled : PutIsStalled
  pub limit_reached : LimitReached
  pub both_blocks_are_held : BothBlocksAreHeld
  pub read_eight_apart : ReadEightApart

pub all_so : AllSo
unfolding executing
all_so =
    record {
      one_hands_over = refl;
      handed_over_so = record { ends = refl; leaves = refl; finds = refl };
      share_falsely = record { ends = refl; leaves = refl; finds = refl };
      store_bytes = record { ends = refl; leaves = refl; finds = refl };
      sum_in_turn = record { ends = refl; leaves = refl; finds = refl };
      choice_decides = record {
        second = record { ends = refl; leaves = refl; finds = refl };
        first = record { ends = refl; leaves = refl; finds = refl };
        between = record { ends = refl; leaves = refl; finds = refl };
      };
      put_is_stalled = record {
        invalidated = record { ends = refl; leaves = refl; finds = refl };
        shared = record { ends = refl; leaves = refl; finds = refl };
        given_up = record { ends = refl; leaves = refl; finds = refl };
      };
      limit_reached = record { ends = refl; leaves = refl; finds = refl };
      both_blocks_are_held = refl;
      read_eight_apart = record { ends = refl; leaves = refl; finds = refl };
    }
