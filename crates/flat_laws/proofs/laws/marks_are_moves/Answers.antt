use Rattle.flat_laws.proofs.MarkedMoves.{message_marked, own_marked, request_marked, response_marked}
use Rattle.flat_laws.proofs.laws.marks_are_moves.Goals as goal

pub returns-clause-own : goal.returns-clause-own
returns-clause-own c = λ f s memory k stands within. own_marked f s memory k stands within

pub returns-clause-requests : goal.returns-clause-requests
returns-clause-requests c = λ f s memory k stands within. request_marked f s memory k stands within

pub returns-clause-responses : goal.returns-clause-responses
returns-clause-responses c = λ f s memory k stands within. response_marked f s memory k stands within

pub returns-clause-messages : goal.returns-clause-messages
returns-clause-messages c = λ f s memory k stands within. message_marked f s memory k stands within
