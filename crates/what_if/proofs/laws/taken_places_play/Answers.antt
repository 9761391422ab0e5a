use Rattle.what_if.proofs.Fronts.{plays_taken}
use Rattle.what_if.proofs.laws.taken_places_play.Goals as goal

pub returns : goal.returns
returns c = plays_taken
