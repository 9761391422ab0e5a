use Rattle.replay_core.proofs.Lists.{places_law, one_more as one_more_law}
use Rattle.replay_core.proofs.Ready.{sourced_law, ready_test}
use Rattle.replay_core.proofs.laws.replay_orders.Goals as goal

pub returns : goal.returns
returns c = record { sourced = sourced_law; test = ready_test; places = places_law; one_more = one_more_law }
