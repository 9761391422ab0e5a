use Rattle.std.proofs.Common.{◌<◌, ◌∙◌, ap, subst}
use Rattle.race_log.specs.Validity.{Valid}
use Rattle.debug_place.specs.Places.{Placed}
use Rattle.debug_place.proofs.AtCuts.{inside_plan}
use Rattle.debug_place.proofs.place.Place.next_use.Goals as goal

pub next_use-requires : goal.next_use-requires
next_use-requires c =
    let place = c.args.self.now in
    inside_plan place.which place.recording
    (subst (λ (p : Placed). Valid p.recording) c.self.view_is c.self.invariant.valid) c.standing.result
    c.standing.ensures.0.plan_is c.args.core c.requires
