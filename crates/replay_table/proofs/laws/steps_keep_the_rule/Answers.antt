use Rattle.replay_table.proofs.Keeps.{see_keeps, load_keeps, hold_keeps, store_keeps, exchange_keeps, fail_keeps}
use Rattle.replay_table.proofs.Keeps.{publish_keeps}
use Rattle.replay_table.proofs.ViewCuts.{split_keeps, join_keeps}
use Rattle.replay_table.proofs.laws.steps_keep_the_rule.Goals as goal

pub returns : goal.returns
returns c = record {
  see = see_keeps;
  load = load_keeps;
  hold = hold_keeps;
  store = store_keeps;
  exchange = exchange_keeps;
  fail = fail_keeps;
  publish = publish_keeps;
  split = split_keeps;
  join = join_keeps;
}
