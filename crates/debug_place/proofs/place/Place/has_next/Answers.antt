use Rattle.std.proofs.Common.{subst}
use Rattle.race_log.specs.Validity.{Valid}
use Rattle.debug_place.specs.Places.{Placed}
use Rattle.debug_place.proofs.AtCuts.{inside_plan}
use Rattle.debug_place.proofs.OwnCuts.{next_there}
use Rattle.debug_place.proofs.place.Place.has_next.Goals as goal

pub count-requires : goal.count-requires
count-requires c =
    let place = c.args.self.now in
    inside_plan place.which place.recording
    (subst (λ (p : Placed). Valid p.recording) c.self.view_is c.self.invariant.valid) c.standing-standing.result
    c.standing-standing.ensures.0.plan_is c.args.core c.requires

pub total-requires : goal.total-requires
total-requires c =
    let place = c.args.self.now in
    inside_plan place.which place.recording
    (subst (λ (p : Placed). Valid p.recording) c.self.view_is c.self.invariant.valid) c.standing-standing.result
    c.standing-standing.ensures.0.plan_is c.args.core c.requires

pub returns : goal.returns
returns c =
    next_there c.standing-standing.ensures.0
    (subst (λ (p : Placed). Valid p.recording) c.self.view_is c.self.invariant.valid) c.args.core c.requires
    c.count.result c.count.ensures c.total.result c.total.ensures
