use Rattle.run_replays.proofs.RunLaws.{conflicts_forward_law, forward_law, reduced_forward, reduced_order}
use Rattle.run_replays.proofs.laws.retirement_is_a_replay_order.Goals as goal

pub returns : goal.returns
returns c = record {
  forward = forward_law;
  conflicts = conflicts_forward_law;
  edges = reduced_forward;
  reduced =
      reduced_order;
}
