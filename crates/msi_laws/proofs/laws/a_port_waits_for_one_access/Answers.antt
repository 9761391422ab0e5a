use Rattle.msi_laws.proofs.Waits.{wants_law, waits_law, still_law, grants_law}
use Rattle.msi_laws.proofs.laws.a_port_waits_for_one_access.Goals as goal

pub returns : goal.returns
returns g c = record {
  asked = wants_law g.R.Rider.riding g.K.Carry.carrying;
  waits = waits_law g.R.Rider.riding g.K.Carry.carrying;
  granted = grants_law g.R.Rider.riding g.K.Carry.carrying;
  still = still_law g.R.Rider.riding g.K.Carry.carrying;
}
