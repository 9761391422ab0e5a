use Rattle.replay_table.proofs.Tells.{see_tells as see, load_tells as load, hold_tells as hold, store_tells as store}
use Rattle.replay_table.proofs.Tells.{exchange_tells as exchange, publish_tells as publish}
use Rattle.replay_table.proofs.laws.rule_and_step_tell.Goals as goal

pub returns : goal.returns
returns c = record { see = see; load = load; hold = hold; store = store; exchange = exchange; publish = publish }
