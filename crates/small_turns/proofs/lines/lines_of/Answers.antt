use Rattle.std.proofs.Common.{◌≡◌, ◌+◌, ◌∙◌, ap, length, get_or, length-append}
use Rattle.small_turns.specs.declared.lines.Line.{Line}
use Rattle.small_turns.proofs.PlacesReached.{one_act}
use Rattle.small_turns.proofs.lines.lines_of.Goals as goal

pub loop-act-preserved : goal.loop-act-preserved
loop-act-preserved c =
    let line : Line = c.index_mut.result.now in
    let was : line ≡ get_or c.line_of.new.lines.items c.in_ok-line.line line = c.index_mut.ensures.value in
    let longer : length c.push.new.self ≡ length line.waits + 1 =
    ap length c.in_ok-push.ensures.ok ∙ length-append line.waits _ in
    let long : length c.push.new.self ≡ length (get_or c.line_of.new.lines.items c.in_ok-line.line line).waits + 1 =
    longer ∙ ap (λ (l : Line). length l.waits + 1) was in
    λ a. one_act a c.loop-act.lines.items c.line_of.new.lines.items c.in_ok-line.line line _ c.args.acts.now
    c.loop-act.act-index _ c.in_ok-line.ensures.within c.loop-act-test.true (ap (λ (l : Line). l.actor) was) long
    (c.in_ok-line.ensures.held a) (c.in_ok-line.ensures.actor line) (c.loop-act.invariant a)
