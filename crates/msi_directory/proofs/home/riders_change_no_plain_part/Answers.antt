use Rattle.msi_directory.proofs.Forgets.{plain_on_request, plain_on_response}
use Rattle.msi_directory.proofs.home.riders_change_no_plain_part.Goals as goal

pub returns-clause-on_request : goal.returns-clause-on_request
returns-clause-on_request g c = λ entries from request. plain_on_request g.R.Rider.riding entries from request

pub returns-clause-on_response : goal.returns-clause-on_response
returns-clause-on_response g c = λ entries from response. plain_on_response g.R.Rider.riding entries from response
