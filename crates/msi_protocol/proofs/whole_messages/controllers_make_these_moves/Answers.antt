use Rattle.msi_protocol.proofs.Controllers.{request_makes_step, response_makes_step, takes_as_moved, asks_as_wished}
use Rattle.msi_protocol.proofs.whole_messages.controllers_make_these_moves.Goals as goal

pub returns-clause-request : goal.returns-clause-request
returns-clause-request g c = λ e from request. request_makes_step g.R.Rider.riding e from request

pub returns-clause-response : goal.returns-clause-response
returns-clause-response g c = λ e from response. response_makes_step g.R.Rider.riding e from response

pub returns-clause-message : goal.returns-clause-message
returns-clause-message g c = λ line m. takes_as_moved g.R.Rider.riding line m

pub returns-clause-wish : goal.returns-clause-wish
returns-clause-wish g c = asks_as_wished
