-- The item is the last at its place, and each other list reads as before. What is noted of the lists' room stays true:
-- all have some, all but one, or it isn't known.
use Rattle.std.proofs.Common.{◌≡◌, ◌≢◌, ◌<◌, ℕ, sym, ap, ◌∙◌, arith, length}
use Rattle.std.specs.Prelude.{slice_set}
use Rattle.std.proofs.lemmas.Bool.Decides.{nat_tests}
use Rattle.std.proofs.lemmas.List.{length-set}
use Rattle.roomy_lists.specs.Lists.{is_ready_at, items_in, with_item}
use Rattle.roomy_lists.proofs.Rooms.{others_but, others_more, others_none, pushed, ready_each, ready_elsewhere}
use Rattle.roomy_lists.proofs.Rooms.{still_ready, unknown}
use Rattle.roomy_lists.proofs.all_lists.RoomyLists.push.Given.{Over}
use Rattle.roomy_lists.proofs.all_lists.RoomyLists.push.Goals as goal
use Rattle.roomy_lists.proofs.all_lists.RoomyLists.push.Goals.{After-push-ready, else-only, else-self, then-only}
use Rattle.roomy_lists.proofs.all_lists.RoomyLists.push.Goals.{then-self}

-- after the item was put at the end of the list at its place
module _ (g : Over) (c : After-push-ready g) where
  items : items_in (slice_set c.self.inside.lists.items c.args.place c.push-ready.new.self)
      ≡ with_item (items_in c.args.self.now) c.args.place c.args.item
  items =
      pushed c.self.inside.lists.items c.args.place c.index_mut.result.now c.push-ready.new.self c.args.item
      (omega (arith, ap length c.self.view_is, c.requires.place)) c.index_mut.ensures.value c.push-ready.ensures.items
      ∙ ap (λ all. with_item (items_in all) c.args.place c.args.item) c.self.view_is

  others : (other : ℕ) → other ≢ c.args.place →
      is_ready_at (slice_set c.self.inside.lists.items c.args.place c.push-ready.new.self) other
      ≡ is_ready_at c.args.self.now other
  others other apart = ready_elsewhere c.self.inside.lists.items c.args.place other c.push-ready.new.self apart
      ∙ ap (λ all. is_ready_at all other) c.self.view_is

pub returns-after-only-clause-items : goal.returns-after-only-clause-items
returns-after-only-clause-items g c = items g (goal.at.returns-after-only-clause-items g c).After-push-ready

pub returns-after-only-clause-others : goal.returns-after-only-clause-others
returns-after-only-clause-others g c = others g (goal.at.returns-after-only-clause-others g c).After-push-ready

pub returns-else-not-ready-clause-items : goal.returns-else-not-ready-clause-items
returns-else-not-ready-clause-items g c = items g (goal.at.returns-else-not-ready-clause-items g c).After-push-ready

pub returns-else-not-ready-clause-others : goal.returns-else-not-ready-clause-others
returns-else-not-ready-clause-others g c = others g (goal.at.returns-else-not-ready-clause-others g c).After-push-ready

pub invariant_of-self : goal.invariant_of-self
invariant_of-self g c =
    let lists = c.self.inside.lists.items in
    let inside : c.args.place < length lists = omega (arith, ap length c.self.view_is, c.requires.place) in (
      c.self.invariant.0,
      c.self.invariant.1,
      λ e. unknown _ e,
      elim c.if-only.branch [
        | then-only w ↦ rw (w.self-is)
            (others_but lists c.args.place c.push-ready.new.self (λ k lt apart. elim c.if-self.branch [
              | then-self v ↦ ready_each lists k (c.self.invariant.2 v.if-self.true) lt
              | else-self v ↦
                  let is = sym v.only-is ∙ w.if-only.true in
                  let same : c.self.inside.full ≡ c.args.place = grind (arith, nat_tests) in
                  c.self.invariant.3.each k (omega (arith, same, inside)) lt (λ e. apart (e ∙ same))
            ]))
        | else-only w ↦
            let long = length-set lists c.args.place c.push-ready.new.self in
            others_none (slice_set lists c.args.place c.push-ready.new.self) c.if-only.self
            (omega (arith, w.self-is, w.len-self-inside.ensures, long))
      ],
    )

pub invariant_of-self-else-not-ready : goal.invariant_of-self-else-not-ready
invariant_of-self-else-not-ready g c =
    let lists = c.self.inside.lists.items in
    let has = sym c.push-ready.ensures.ready ∙ c.if-not-ready.false in (
      c.self.invariant.0,
      c.self.invariant.1,
      λ e. still_ready lists c.args.place c.push-ready.new.self (c.self.invariant.2 e) has,
      others_more lists c.args.place c.self.inside.full c.push-ready.new.self
          (omega (arith, ap length c.self.view_is, c.requires.place)) has c.self.invariant.3,
    )
