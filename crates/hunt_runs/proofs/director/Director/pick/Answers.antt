use Rattle.std.proofs.Common.{◌≡◌, ◌∙◌, ap, sym}
use Rattle.rtr_types.specs.declared.core_set.CoreSet.{CoreSet}
use Rattle.hunt_runs.specs.Directing.{Directed, list_at}
use Rattle.hunt_runs.proofs.Decisions.{picks_none, picks_one}
use Rattle.hunt_runs.proofs.director.Director.pick.Goals as goal

pub returns-then-is_nobody-clause-picked : goal.returns-then-is_nobody-clause-picked
returns-then-is_nobody-clause-picked g c =
    let d = c.args.self.now in
    let round_is : c.round.result ≡ d.jumps.round =
    c.round.ensures ∙ ap (λ (e : Directed g.row.P.Denot). e.jumps.round) c.self.view_is in
    picks_none g.P.Policy.policy d c.args.enabled.actors c.list_at-list.result
    (c.list_at-list.ensures.value ∙ ap (λ (r : CoreSet). list_at r c.args.enabled.actors) round_is)
    (sym c.is_nobody.ensures ∙ c.if-is_nobody.true)

pub returns-clause-picked : goal.returns-clause-picked
returns-clause-picked g c =
    let d = c.args.self.now in
    let round_is : c.round.result ≡ d.jumps.round =
    c.round.ensures ∙ ap (λ (e : Directed g.row.P.Denot). e.jumps.round) c.self.view_is in
    picks_one g.P.Policy.policy d c.args.enabled.actors c.list_at-list.result c.self-2.inside.policy
    c.pick-actor.new.self c.self-2.inside.jumps c.pick-actor.result c.step_of.result
    (c.list_at-list.ensures.value ∙ ap (λ (r : CoreSet). list_at r c.args.enabled.actors) round_is)
    (sym c.is_nobody.ensures ∙ c.if-is_nobody.false)
    (ap (λ (e : Directed g.row.P.Denot). e.policy) (c.self-2.view_is ∙ c.tell.ensures))
    (ap (λ (e : Directed g.row.P.Denot). e.jumps) (c.self-2.view_is ∙ c.tell.ensures))
    c.pick-actor.ensures.picked c.pick-actor.ensures.state c.step_of.ensures.value
