-- Place by place: what was noted is the low order's front, and the lowest ready core comes next; where none is ready
-- the log isn't whole.
use Rattle.std.proofs.Common.{◌∙◌, List, ℕ, refl, sym, subst}
use Rattle.replay_core.proofs.LowCounts.{inside_plan, below_plan, less_to_go}
use Rattle.replay_audit.proofs.LowWalk.{Walking, can_note, low_whole, walk_is, walking_on, walking_start}
use Rattle.replay_audit.proofs.whole_order.WholeOrder.of.Goals as goal

pub loop-core-init : goal.loop-core-init
loop-core-init c = subst (λ (l : List ℕ). Walking c.args.which c.args.recording.now l c.in_ok-tally.tally
    c.in_ok-clocks.clocks) (sym c.new-order.ensures.items)
    (walking_start _ _ _ _ _ c.requires c.in_ok-tally.ensures.plan c.in_ok-tally.ensures.counts c.cores.ensures.all
    c.in_ok-clocks.ensures)

pub next-next-requires-clause-inside : goal.next-next-requires-clause-inside
next-next-requires-clause-inside c =
    inside_plan _ _ _ c.loop-core.invariant.counted _ (sym c.lowest.ensures ∙ c.in-Some.is)

pub next-next-requires-clause-below : goal.next-next-requires-clause-below
next-next-requires-clause-below c =
    below_plan _ _ _ c.loop-core.invariant.counted _ (sym c.lowest.ensures ∙ c.in-Some.is)

pub note-requires-clause-next : goal.note-requires-clause-next
note-requires-clause-next c =
    can_note c.requires c.loop-core.invariant (sym c.lowest.ensures ∙ c.in-Some.is) c.next-next.ensures.at

pub advance-requires-clause-inside : goal.advance-requires-clause-inside
advance-requires-clause-inside c =
    inside_plan _ _ _ c.loop-core.invariant.counted _ (sym c.lowest.ensures ∙ c.in-Some.is)

pub advance-requires-clause-below : goal.advance-requires-clause-below
advance-requires-clause-below c =
    below_plan _ _ _ c.loop-core.invariant.counted _ (sym c.lowest.ensures ∙ c.in-Some.is)

pub loop-core-smaller : goal.loop-core-smaller
loop-core-smaller c =
    less_to_go _ _ _ c.loop-core.invariant.counted _
    (sym c.lowest.ensures ∙ c.in-Some.is) _ c.advance.ensures.plan c.advance.ensures.counts

pub loop-core-preserved : goal.loop-core-preserved
loop-core-preserved c =
    let next = c.next-next.ensures in
    let more = c.advance.ensures in
    subst (λ (l : List ℕ). Walking c.args.which c.args.recording.now l c.advance.new.self c.note.new.self)
    (sym c.in_ok-push.ensures.items)
    (walking_on c.requires c.loop-core.invariant (sym c.lowest.ensures ∙ c.in-Some.is) next.at c.advance.new.self _ _
    c.note.new.self more.plan more.counts next.sources c.cores-in-Some.ensures.all c.in_ok-note.ensures)

pub returns-then-not-whole : goal.returns-then-not-whole
returns-then-not-whole c whole =
    let low = low_whole c.requires c.loop-core.invariant (sym c.lowest.ensures ∙ c.in_default.is) in
    let full = c.if-not-whole.ensures.1 (low.1 whole) in
    absurd (cc)

pub invariant_of-result : goal.invariant_of-result
invariant_of-result c =
    let some = sym c.lowest.ensures ∙ c.in_default.is in
    walk_is c.requires c.loop-core.invariant some
    ((low_whole c.requires c.loop-core.invariant some).0 (c.whole.ensures.0 c.if-not-whole.false))

pub returns : goal.returns
returns c =
    let some = sym c.lowest.ensures ∙ c.in_default.is in
    (refl, refl, (low_whole c.requires c.loop-core.invariant some).0 (c.whole.ensures.0 c.if-not-whole.false))
