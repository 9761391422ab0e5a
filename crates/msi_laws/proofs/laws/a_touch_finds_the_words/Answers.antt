use Rattle.msi_laws.proofs.Properties.{finds_words}
use Rattle.msi_laws.proofs.laws.a_touch_finds_the_words.Goals as goal

pub returns : goal.returns
returns g c = finds_words g.R.Rider.riding g.K.Carry.carrying
