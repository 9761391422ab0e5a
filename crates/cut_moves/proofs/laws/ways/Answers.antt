use Rattle.cut_moves.proofs.Along.{way_ordered, way_counts}
use Rattle.cut_moves.proofs.laws.ways.Goals as goal

pub returns : goal.returns
returns c = record { ordered = way_ordered; counts = way_counts }
