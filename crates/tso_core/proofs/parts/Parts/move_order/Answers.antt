use Rattle.std.proofs.Common.{◌∙◌, refl}
use Rattle.tso_state.specs.declared.moves.Move.TheVariants.{Order}
use Rattle.tso_core.specs.Moving.{rider_left}
use Rattle.tso_core.proofs.Heads.{order_standing}
use Rattle.tso_core.proofs.MoveFrames.{at_port, core_after, core_before, order_moved, own_marks, room_still}
use Rattle.tso_core.proofs.parts.Parts.move_order.Goals as goal

pub order-requires-clause-room : goal.order-requires-clause-room
order-requires-clause-room g c =
    room_still g.R.Rider.riding g.K.Carry.carrying c.args.self.now.state (Order c.args.c) c.args.c c.requires.holds
    c.requires.enabled refl

pub mark_core-requires-clause-here : goal.mark_core-requires-clause-here
mark_core-requires-clause-here g c =
    core_after {m = Order c.args.c} c.order.new.self refl c.requires.holds c.requires.enabled
    c.order.ensures.made.state refl

pub mark_core-requires-clause-port : goal.mark_core-requires-clause-port
mark_core-requires-clause-port g c =
    at_port {m = Order c.args.c} c.order.new.self refl c.requires.holds c.requires.enabled
    c.order.ensures.made.state refl

pub returns-clause-marked : goal.returns-clause-marked
returns-clause-marked g c =
    let s = c.args.self.now.state in
    let t = c.order.new.self.state in
    own_marks {m = Order c.args.c} c.order.new.self refl c.requires.holds c.requires.enabled
    c.order.ensures.made.state refl
    (c.requires.stands ∙ order_standing g.R.Rider.riding g.K.Carry.carrying
    (rider_left g.R.Rider.riding g.K.Carry.carrying s t (Order c.args.c)) s t c.args.c c.order.ensures.made.state
    (core_before {m = Order c.args.c} c.order.new.self refl c.requires.holds c.requires.enabled
    c.order.ensures.made.state refl))
    c.requires.marked c.mark_core.ensures
    (λ port. order_moved g.R.Rider.riding g.K.Carry.carrying _ s t c.args.c port c.order.ensures.made.state)
