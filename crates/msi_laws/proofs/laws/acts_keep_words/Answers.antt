use Rattle.msi_laws.proofs.StartInvariant.{words_start}
use Rattle.msi_laws.proofs.Properties.{words_kept}
use Rattle.msi_laws.proofs.laws.acts_keep_words.Goals as goal

pub returns : goal.returns
returns g c = record {
  start = words_start g.R.Rider.riding g.K.Carry.carrying;
  act = words_kept g.R.Rider.riding g.K.Carry.carrying;
}
