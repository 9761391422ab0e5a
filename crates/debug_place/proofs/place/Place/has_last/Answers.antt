use Rattle.std.proofs.Common.{subst}
use Rattle.race_log.specs.Validity.{Valid}
use Rattle.debug_place.specs.Places.{Placed}
use Rattle.debug_place.proofs.AtCuts.{inside_plan}
use Rattle.debug_place.proofs.OwnCuts.{last_there}
use Rattle.debug_place.proofs.place.Place.has_last.Goals as goal

pub count-requires : goal.count-requires
count-requires c =
    let place = c.args.self.now in
    inside_plan place.which place.recording
    (subst (λ (p : Placed). Valid p.recording) c.self.view_is c.self.invariant.valid) c.standing.result
    c.standing.ensures.0.plan_is c.args.core c.requires

pub returns : goal.returns
returns c =
    last_there c.standing.ensures.0
    (subst (λ (p : Placed). Valid p.recording) c.self.view_is c.self.invariant.valid) c.args.core c.requires
    c.count.result c.count.ensures
