use Rattle.machine_data.proofs.OpeningWords.{start_coherent}
use Rattle.machine_data.proofs.laws.a_start_has_what_the_image_has.Goals as goal

pub returns : goal.returns
returns g c = λ image cores limit fits. start_coherent g.R.Rider.riding g.K.Carry.carrying image cores limit fits
