use Rattle.std.proofs.Common.{refl}
use Rattle.replay_core.specs.Play.{core_at}
use Rattle.replay_core.proofs.PlaceSteps.{used_within}
use Rattle.cut_index.proofs.standing.Standing.next_use.Goals as goal

pub returns-clause-within : goal.returns-clause-within
returns-clause-within c =
    let u = c.args.self.now in
    used_within u.plan.image (core_at u.state c.args.core) c.next.result.used u.plan.image.words c.next.ensures.used
    refl
