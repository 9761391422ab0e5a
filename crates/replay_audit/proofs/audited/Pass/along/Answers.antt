use Rattle.replay_audit.proofs.LowAudit.{followed_same}
use Rattle.replay_audit.proofs.audited.Pass.along.Goals as goal

pub returns : goal.returns
returns c =
    followed_same c.in_ok-into_outcome.ensures c.into_parts-accesses.ensures.accesses
    c.into_parts-accesses.ensures.clocks c.in_ok-follow.ensures
