use Rattle.std.proofs.Common.{◌-◌, ap, ◌∙◌, arith, length, false, get_or}
use Rattle.std.specs.Prelude.{slice_set}
use Rattle.std.proofs.lemmas.List.{length-set}
use Rattle.roomy_lists.specs.Lists.{is_ready_at, items_in, with_newest}
use Rattle.roomy_lists.proofs.Rooms.{changed, found, known_still, others_still, same_ready}
use Rattle.roomy_lists.proofs.all_lists.RoomyLists.set_last.Goals as goal

pub returns-clause-items : goal.returns-clause-items
returns-clause-items g c =
    changed c.self.inside.lists.items c.args.place c.set_last.new.self _
    (c.set_last.ensures.items
    ∙ ap (λ xs. slice_set xs (length xs - 1) c.args.item)
    (found c.self.inside.lists.items c.args.place c.index_mut.result.now
    (omega (arith, ap length c.self.view_is, c.requires.place)) c.index_mut.ensures.value))
    ∙ ap (λ all. with_newest (items_in all) c.args.place c.args.item) c.self.view_is

pub returns-clause-ready : goal.returns-clause-ready
returns-clause-ready g c other =
    ap (λ bs. get_or bs other false)
    (same_ready c.self.inside.lists.items c.args.place c.index_mut.result.now c.set_last.new.self
    c.index_mut.ensures.value c.set_last.ensures.ready)
    ∙ ap (λ all. is_ready_at all other) c.self.view_is

pub invariant_of-self : goal.invariant_of-self
invariant_of-self g c = (
  c.self.invariant.0,
  c.self.invariant.1,
  λ e. known_still c.self.inside.lists.items c.args.place c.index_mut.result.now c.set_last.new.self
      c.index_mut.ensures.value c.set_last.ensures.ready
      (c.self.invariant.2 e),
  others_still c.self.inside.lists.items
      (slice_set c.self.inside.lists.items c.args.place c.set_last.new.self) c.self.inside.full
      (same_ready c.self.inside.lists.items c.args.place c.index_mut.result.now c.set_last.new.self
      c.index_mut.ensures.value c.set_last.ensures.ready)
      (length-set c.self.inside.lists.items c.args.place c.set_last.new.self) c.self.invariant.3,
)
