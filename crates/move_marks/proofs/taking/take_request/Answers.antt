use Rattle.msi_memory.specs.Acts.{TakeRequest}
use Rattle.move_marks.proofs.TurnMarks.{few_after, home_can, request_followed}
use Rattle.move_marks.proofs.taking.take_request.Goals as goal

pub take_request-turn-requires-clause-can : goal.take_request-turn-requires-clause-can
take_request-turn-requires-clause-can g c = home_can c.requires.holds (TakeRequest c.args.core) c.requires.can

pub mark_turn-requires-clause-ports : goal.mark_turn-requires-clause-ports
mark_turn-requires-clause-ports g c =
    few_after c.requires.holds (TakeRequest c.args.core) c.take_request-turn.ensures.memory

pub returns : goal.returns
returns g c =
    request_followed c.args.core c.requires.holds c.requires.marked c.requires.cores c.take_request-turn.ensures
    c.requires.can c.set.ensures.this c.set.ensures.others c.mark_turn.ensures
