use Rattle.machine_invariant.proofs.DoneCores.{links_left}
use Rattle.machine_data.proofs.Final.{final_current}
use Rattle.machine_data.proofs.laws.the_end_has_the_memory.Goals as goal

pub returns : goal.returns
returns g c = λ s memory holds done h block.
    final_current g.R.Rider.riding g.K.Carry.carrying s memory holds (links_left g.R.Rider.riding g.K.Carry.carrying s
    holds done) h block
