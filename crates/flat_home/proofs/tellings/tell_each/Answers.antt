use Rattle.std.proofs.Common.{◌∙◌, ◌==◌, ap, arith, sym, Bool}
use Rattle.std.specs.Prelude.{◌&&◌}
use Rattle.flat_state.specs.declared.message_ring.Told.TheVariants.{Inv}
use Rattle.flat_state.specs.Shows.{node_at}
use Rattle.flat_home.specs.Tellings.{with_message}
use Rattle.flat_home.proofs.Tells.{told_end, told_room, told_start, told_step}
use Rattle.flat_home.proofs.tellings.tell_each.Goals as goal

pub loop-core-init : goal.loop-core-init
loop-core-init c = told_start c.args.set c.args.place c.args.nodes.now.items

pub tell_if-requires-clause-room : goal.tell_if-requires-clause-room
tell_if-requires-clause-room c = λ hears.
    told_room c.args.set c.args.place c.args.nodes.now.items _ c.loop-core.core c.loop-core.invariant
    (λ within. c.requires.room c.loop-core.core within (sym c.has-hears.ensures ∙ hears))

pub loop-core-preserved : goal.loop-core-preserved
loop-core-preserved c =
    told_step c.args.set c.args.place c.args.nodes.now.items c.loop-core.nodes.items c.tell_if.new.nodes.items
    c.loop-core.core c.loop-core.invariant c.tell_if.ensures.long
    (λ d lies. c.tell_if.ensures.nodes d lies
    ∙ ap (λ (t : Bool). with_message (t && (d == c.loop-core.core)) c.args.place Inv
    (node_at c.loop-core.nodes.items d)) c.has-hears.ensures)

pub returns-clause-long : goal.returns-clause-long
returns-clause-long c = c.loop-core.invariant.long

pub returns-clause-nodes : goal.returns-clause-nodes
returns-clause-nodes c =
    let ok = c.args.nodes.now.ok.0 in
    told_end c.args.set c.args.place c.args.nodes.now.items _ _ (omega (arith, ok)) c.loop-core.invariant
