use Rattle.msi_laws.proofs.StartInvariant.{memory_starts}
use Rattle.msi_laws.proofs.ActInvariant.{memory_kept}
use Rattle.msi_laws.proofs.KindsShown.{blocks_hold}
use Rattle.msi_laws.proofs.laws.acts_keep_the_invariant.Goals as goal

pub returns : goal.returns
returns g c = record {
  start = memory_starts g.R.Rider.riding g.K.Carry.carrying;
  act = memory_kept g.R.Rider.riding g.K.Carry.carrying;
  blocks = blocks_hold g.R.Rider.riding g.K.Carry.carrying;
}
