use Rattle.run_outcome.proofs.OutcomeFits.{run_fits_law}
use Rattle.run_outcome.proofs.laws.a_run_fits_its_image.Goals as goal

pub returns : goal.returns
returns c = run_fits_law
