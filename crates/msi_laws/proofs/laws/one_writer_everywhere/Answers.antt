use Rattle.msi_protocol.proofs.Keeps.{one_writer_holds}
use Rattle.msi_laws.specs.Holds.{block_in}
use Rattle.msi_laws.proofs.KindsShown.{blocks_hold}
use Rattle.msi_laws.proofs.laws.one_writer_everywhere.Goals as goal

pub returns : goal.returns
returns g c = λ m h b. one_writer_holds (block_in g.R.Rider.riding g.K.Carry.carrying m b)
    (blocks_hold g.R.Rider.riding g.K.Carry.carrying m h b)
