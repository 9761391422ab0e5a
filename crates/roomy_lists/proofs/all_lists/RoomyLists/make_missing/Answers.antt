-- One list may be known to be the only full one: it gets room. Otherwise each list does in turn, and those made ready
-- so far stay ready. The items stay, also where memory ran out.
use Rattle.std.proofs.Common.{◌∙◌, ap, arith, vec_len, vec_capacity}
use Rattle.roomy_lists.specs.Lists.{items_in}
use Rattle.roomy_lists.proofs.Rooms.{all_made, made_more, others_but, others_made, others_none, same_items, unknown}
use Rattle.roomy_lists.proofs.all_lists.RoomyLists.make_missing.Goals as goal

pub returns-in_err-make_room-clause-items : goal.returns-in_err-make_room-clause-items
returns-in_err-make_room-clause-items g c =
    same_items c.self.inside.lists.items c.self.inside.full c.index_mut.result.now c.make_room.new.self
    c.index_mut.ensures.value c.make_room.ensures.items
    ∙ ap items_in c.self.view_is

pub invariant_of-self : goal.invariant_of-self
invariant_of-self g c = (
  c.self.invariant.0,
  c.self.invariant.1,
  λ e. unknown _ e,
  others_but c.self.inside.lists.items c.self.inside.full c.make_room.new.self
      (λ k lt apart. c.self.invariant.3.each k (omega (arith, c.if-self-len.true, c.len.ensures)) lt apart),
)

pub invariant_of-self-then-self-len : goal.invariant_of-self-then-self-len
invariant_of-self-then-self-len g c = (
  c.self.invariant.0,
  c.self.invariant.1,
  λ e. others_made c.self.inside.lists.items c.self.inside.full c.make_room.new.self
      (omega (arith, c.if-self-len.true, c.len.ensures)) c.in_ok-make_room.ensures.ready c.self.invariant.3,
  others_but c.self.inside.lists.items c.self.inside.full c.make_room.new.self
      (λ k lt apart. c.self.invariant.3.each k (omega (arith, c.if-self-len.true, c.len.ensures)) lt apart),
)

pub returns-then-self-len-clause-items : goal.returns-then-self-len-clause-items
returns-then-self-len-clause-items g c =
    same_items c.self.inside.lists.items c.self.inside.full c.index_mut.result.now c.make_room.new.self
    c.index_mut.ensures.value c.make_room.ensures.items
    ∙ ap items_in c.self.view_is

pub returns-then-self-len-clause-ready : goal.returns-then-self-len-clause-ready
returns-then-self-len-clause-ready g c =
    others_made c.self.inside.lists.items c.self.inside.full c.make_room.new.self
    (omega (arith, c.if-self-len.true, c.len.ensures)) c.in_ok-make_room.ensures.ready c.self.invariant.3

pub returns-in_err-make_room-2-clause-items : goal.returns-in_err-make_room-2-clause-items
returns-in_err-make_room-2-clause-items g c =
    same_items c.loop-place.self-inside.lists.items c.loop-place.place c.index_mut-in-loop-place.result.now
    c.make_room-in-loop-place.new.self c.index_mut-in-loop-place.ensures.value
    c.make_room-in-loop-place.ensures.items
    ∙ c.loop-place.invariant.made.same ∙ ap items_in c.self.view_is

pub loop-place-preserved : goal.loop-place-preserved
loop-place-preserved g c = record {
  made = made_more c.self.inside.lists.items c.loop-place.self-inside.lists.items c.loop-place.place
      c.index_mut-in-loop-place.result.now c.make_room-in-loop-place.new.self
      (omega (arith, c.loop-place.invariant.made.long, c.loop-place-test.true)) c.index_mut-in-loop-place.ensures.value
      c.make_room-in-loop-place.ensures.items
      c.in_ok-make_room-2.ensures.ready c.loop-place.invariant.made;
  len = c.loop-place.invariant.len;
  known = c.loop-place.invariant.known;
  full = c.loop-place.invariant.full;
  finished = c.loop-place.invariant.finished;
}

pub invariant_of-self-2 : goal.invariant_of-self-2
invariant_of-self-2 g c = (
  ap (λ v. vec_len v) c.loop-place.invariant.finished ∙ c.self.invariant.0,
  omega (
    arith,
    c.loop-place.invariant.len,
    ap (λ v. vec_capacity v) c.loop-place.invariant.finished,
    c.self.invariant.1,
  ),
  λ e. all_made c.self.inside.lists.items c.loop-place.self-inside.lists.items c.loop-place.place
      (omega (arith, c.loop-place.invariant.made.long, c.loop-place-test.false)) c.loop-place.invariant.made,
  others_none c.loop-place.self-inside.lists.items c.loop-place.self-inside.full
      (omega (
        arith,
        c.loop-place.invariant.full,
        c.loop-place.invariant.made.long,
        c.if-self-len.false,
        c.len.ensures,
      )),
)

pub returns-clause-ready : goal.returns-clause-ready
returns-clause-ready g c =
    all_made c.self.inside.lists.items c.loop-place.self-inside.lists.items c.loop-place.place
    (omega (arith, c.loop-place.invariant.made.long, c.loop-place-test.false)) c.loop-place.invariant.made
