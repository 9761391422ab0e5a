-- What a replay does whose cores go on if they can.
use Rattle.std.specs.Prelude.{◌≡◌, ℕ, Bool, false}
use Rattle.replay_core.specs.Answers.{UnderWay}
use Rattle.what_if.specs.Others.{goes_on, round, tried}

-- the core went on, if it could
pub record HasTried (old : UnderWay) (core : ℕ) (went : Bool) (new : UnderWay) : Type 0 where
  pub went_is : went ≡ goes_on old.plan old.state core
  pub state : new.state ≡ tried old.plan old.state core

-- a round was taken. If no core went on, nothing changed
pub record HasRound (old : UnderWay) (went : Bool) (new : UnderWay) : Type 0 where
  pub state : new.state ≡ round old.plan old.state
  pub idle : went ≡ false → new.state ≡ old.state
