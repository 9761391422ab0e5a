use Rattle.cut_index.proofs.CoresAlone.{alone_at_law, alone_law, goes_on_law, next_at_law}
use Rattle.cut_index.proofs.laws.cores_stand_alone.Goals as goal

pub returns : goal.returns
returns c = record { order = alone_law; cut = alone_at_law; next = next_at_law; goes_on = goes_on_law }
