use Rattle.msi_laws.proofs.Final.{final_current}
use Rattle.tso_invariant.proofs.DoneMachine.{links_left}
use Rattle.tso_data.proofs.laws.the_end_has_the_memory.Goals as goal

pub returns : goal.returns
returns g c = λ s memory h done k block.
    final_current g.R.Rider.riding g.K.Carry.carrying s.memory memory h.memory
    (links_left g.R.Rider.riding g.K.Carry.carrying s h done) k block
