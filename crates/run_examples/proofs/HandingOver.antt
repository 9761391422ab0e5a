-- A word goes from one core to another and back, as a play. Each value is computed.
use Rattle.std.proofs.Common.{refl}
use Rattle.schedule_pick.specs.Choices.{choice_at}
use Rattle.machine_bound.specs.Ends.{first_end}
use Rattle.run_outcome.specs.Outcomes.{outcome_of}
use Rattle.replay_core.specs.Play.{place_given, touched_given}
use Rattle.run_replays.specs.Orders.{order_of}
use Rattle.msi_examples.proofs.ComputedSteps.{executing}
use Rattle.run_examples.specs.HandingOver.{HandedOverByPlay, HandedOverInOrder}

pub in_order : HandedOverInOrder
unfolding executing order_of first_end choice_at
in_order = refl

pub by_play : HandedOverByPlay
unfolding executing outcome_of first_end choice_at place_given touched_given
by_play = record { outcome = refl; accesses = refl; found = refl; memory = refl }
