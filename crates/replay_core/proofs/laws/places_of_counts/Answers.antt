use Rattle.replay_core.proofs.Counts.{counts_more, place_of, one_place as one_place_law}
use Rattle.replay_core.proofs.laws.places_of_counts.Goals as goal

pub returns : goal.returns
returns c = record { more = counts_more; place = place_of; one = one_place_law }
