use Rattle.std.proofs.Common.{Some, ap, sym, ◌∙◌}
use Rattle.gdb_packets.specs.Asks.{actions_in}
use Rattle.gdb_packets.specs.Texts.{pieces_at}
use Rattle.gdb_packets.proofs.ActionLemmas.{last_acts, last_fails, piece_acts, piece_fails, with_actions}
use Rattle.gdb_packets.proofs.meaning.actions_of.Goals as goal

pub returns-in-None : goal.returns-in-None
returns-in-None c =
    sym (c.loop-front.invariant ∙ piece_fails c.loop-front.actions c.loop-front.rest.now c.in-Some.front.now
    c.in-Some.more.now c.in-Some.ensures.parts (sym c.in-None.ensures))

pub loop-front-preserved : goal.loop-front-preserved
loop-front-preserved c =
    c.loop-front.invariant
    ∙ piece_acts c.loop-front.actions c.loop-front.rest.now c.in-Some.front.now c.in-Some.more.now
    c.in-Some-action_of.action c.in-Some.ensures.parts (sym c.in-Some-action_of.ensures)
    ∙ ap (λ actions. with_actions actions (actions_in (pieces_at 59 c.in-Some.more.now)))
    (sym c.in_ok-push-in-Some-action_of.ensures.ok)

pub returns-in_ok-push-in-Some-action_of-2 : goal.returns-in_ok-push-in-Some-action_of-2
returns-in_ok-push-in-Some-action_of-2 c =
    sym (c.loop-front.invariant ∙ last_acts c.loop-front.actions c.loop-front.rest.now
    c.in-Some-action_of-2.action c.in_default.ensures.parts (sym c.in-Some-action_of-2.ensures)
    ∙ ap (λ actions. Some actions) (sym c.in_ok-push-in-Some-action_of-2.ensures.ok))

pub returns-in-None-action_of : goal.returns-in-None-action_of
returns-in-None-action_of c =
    sym (c.loop-front.invariant ∙ last_fails c.loop-front.actions c.loop-front.rest.now c.in_default.ensures.parts
    (sym c.in-None-action_of.ensures))
