-- Rule: what the rule tells of a step: ToldLoad, ToldExchange
-- What the rule tells of each kind of step: the step, and what follows of the word that it found, and of the core that
-- it leaves. Where a core has gone on, some order plays to it.
use Rattle.std.specs.Prelude.{◌≡◌, ℕ, ◌^◌, ◌<◌, ◌≤◌}
use Rattle.replay_core.specs.Plans.{Plan}
use Rattle.replay_table.specs.declared.view.View.{View}
use Rattle.replay_table.specs.Rule.{seen_of, LowDecides, Reached}
use Rattle.replay_table.specs.Kinds.{retired, SeesDone, LoadsWord, HoldsWord, StoresWord, ExchangesWord, PublishesCount}

-- 1: what was read is no less than what was seen
pub record ToldDone (p : Plan) (v : View) (word found : ℕ) (w : View) : Type 0 where
  pub step : SeesDone p v word found w
  pub fits : found < 2 ^ 32
  pub most : seen_of v step.core ≤ found

-- 2
pub record ToldLoad (p : Plan) (v : View) (word found : ℕ) (w : View) : Type 0 where
  pub step : LoadsWord p v word found w
  pub fits : found < 2 ^ 32
  pub reached : Reached p (seen_of v) (retired p step.own step.at found)

-- 3
pub record ToldHold (p : Plan) (v : View) (word found : ℕ) (w : View) : Type 0 where
  pub step : HoldsWord p v word found w
  pub fits : found < 2 ^ 32

-- 4
pub record ToldStore (p : Plan) (v : View) (word new : ℕ) (w : View) : Type 0 where
  pub step : StoresWord p v word new w
  pub reached : Reached p (seen_of v) (retired p step.own step.at 0)

-- 5: where the recording is determinate by the log, the word was the held one
pub record ToldExchange (p : Plan) (v : View) (word old new found : ℕ) (w : View) : Type 0 where
  pub step : ExchangesWord p v word old new found w
  pub fits : found < 2 ^ 32
  pub sure : LowDecides p → found ≡ old
  pub reached : found ≡ old → Reached p (seen_of v) (retired p step.own step.at old)

-- 6
pub record ToldPublish (p : Plan) (v : View) (word new : ℕ) (w : View) : Type 0 where
  pub step : PublishesCount p v word new w
  pub reached : Reached p (seen_of v) (record step.own { core = step.at; published = new })
