use Rattle.std.proofs.Common.{◌≡◌, ◌∙◌, ap, sym, subst, true}
use Rattle.rtr_types.specs.declared.core_set.CoreSet.{CoreSet}
use Rattle.turn_policies.specs.Listed.{is_listed, is_nobody}
use Rattle.turn_policies.specs.declared.actor_set.ActorSet.{ActorSet}
use Rattle.hunt_runs.proofs.CoreSets.{listed_before}
use Rattle.hunt_runs.proofs.Decisions.{list_all, list_some}
use Rattle.hunt_runs.proofs.decision.Enabled.list_at.Goals as goal

pub returns-then-is_nobody-clause-value : goal.returns-then-is_nobody-clause-value
returns-then-is_nobody-clause-value c =
    let a = c.args.self.actors in
    let with : CoreSet → ActorSet = λ set. record { cores = set; buffers = a.buffers } in
    list_all c.args.round a
    (ap (λ (set : CoreSet). is_nobody (with set)) (sym c.without.ensures)
    ∙ sym c.is_nobody.ensures ∙ c.if-is_nobody.true)

pub returns-else-is_nobody-clause-value : goal.returns-else-is_nobody-clause-value
returns-else-is_nobody-clause-value c =
    let a = c.args.self.actors in
    let with : CoreSet → ActorSet = λ set. record { cores = set; buffers = a.buffers } in
    ap with c.without.ensures
    ∙ list_some c.args.round a
    (ap (λ (set : CoreSet). is_nobody (with set)) (sym c.without.ensures)
    ∙ sym c.is_nobody.ensures ∙ c.if-is_nobody.false)

pub returns-else-is_nobody-clause-enabled : goal.returns-else-is_nobody-clause-enabled
returns-else-is_nobody-clause-enabled c = λ actor is.
    let a = c.args.self.actors in
    c.args.self.within actor (listed_before a c.args.round actor
    (subst (λ (set : CoreSet). is_listed (record { cores = set; buffers = a.buffers }) actor ≡ true)
    c.without.ensures is))
