use Rattle.std.proofs.Common.{◌≡◌, ◌∙◌, ◌≤◌, ap, arith, length, subst, sym, true, ℕ}
use Rattle.rtr_types.specs.CoreSets.{no_cores}
use Rattle.move_marks.specs.Kinds.{marked, set_of}
use Rattle.move_marks.specs.declared.marks.MoveKind.TheVariants.{Own}
use Rattle.flat_machine.specs.declared.machine.FlatMachine.{FlatMachine}
use Rattle.turn_policies.specs.Listed.{is_listed, listed}
use Rattle.turn_policies.specs.declared.actor_set.ActorSet.{ActorSet}
use Rattle.hunt_runs.proofs.FlatMarks.{actor_within, actors_few}
use Rattle.hunt_runs.proofs.flat.FlatRunHuntedMachine.enabled.Goals as goal

pub invariant_of-result : goal.invariant_of-result
invariant_of-result c = record {
  within = λ a is.
      let few = actor_within c.self.inside.machine a c.self.invariant.1
      (subst (λ (x : ActorSet). is_listed x a ≡ true)
      (λ i. record { cores = c.set_of.ensures i; buffers = c.empty.ensures i }) is) in
      let all = c.self.inside.machine.flat.nodes.ok.0 in
      let len = c.len.ensures in
      omega (arith, few, all, len);
  listed = subst (λ (x : ActorSet). length (listed x) ≤ c.count.result)
      (sym (λ i. record { cores = c.set_of.ensures i; buffers = c.empty.ensures i }))
      (subst (λ (n : ℕ).
      length (listed (record { cores = set_of Own c.self.inside.machine.marks; buffers = no_cores })) ≤ n)
      (sym c.count.ensures.value) (actors_few c.self.inside.machine));
  few = omega (arith, c.count.ensures.few);
}

pub returns-clause-steps : goal.returns-clause-steps
returns-clause-steps c =
    c.count.ensures.value ∙ ap (λ (m : FlatMachine). length (marked m.marks)) c.self.view_is
