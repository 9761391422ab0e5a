use Rattle.msi_directory.proofs.Fits.{request_keeps_fit, response_keeps_fit}
use Rattle.msi_directory.proofs.home.home_rows_fit.Goals as goal

pub returns-clause-request : goal.returns-clause-request
returns-clause-request g c = λ e from request h fits. request_keeps_fit g.R.Rider.riding e from request h fits

pub returns-clause-response : goal.returns-clause-response
returns-clause-response g c = λ e from response h fits. response_keeps_fit g.R.Rider.riding e from response h
    fits
