use Rattle.std.proofs.Common.{ℕ, List, ap, sym, subst, ◌∙◌, length, replicate}
use Rattle.rtr_types.specs.declared.pairs.Which.{Which}
use Rattle.race_log.specs.declared.recording.Recording.{Recording}
use Rattle.replay_core.specs.Orders.{IsReplayOrder, IsWhole}
use Rattle.replay_core.specs.Plans.{plan_of}
use Rattle.cut_moves.proofs.Rounds.{rounds_ordered, rounds_whole}
use Rattle.cut_moves.proofs.TakenRounds.{IsSoFar, fewer_left, so_far_end, so_far_on, so_far_start}
use Rattle.cut_moves.proofs.by_rounds.rounds_in.Goals as goal

pub loop-ready-init : goal.loop-ready-init
loop-ready-init c =
    let a = c.args.audited.now in
    subst (λ (l : List ℕ). IsSoFar (plan_of a.which a.recording) c.in_ok-tally.tally l) (sym c.in_ok-list.ensures.items)
    (so_far_start (plan_of a.which a.recording) c.in_ok-tally.tally
    (c.in_ok-tally.ensures.plan ∙ ap (λ (w : Which). plan_of w c.recording.result.now) c.which.ensures
    ∙ ap (λ (r : Recording). plan_of a.which r) c.recording.ensures.recording)
    (c.in_ok-tally.ensures.counts
    ∙ ap (λ (r : Recording). replicate (length r.totals) 0) c.recording.ensures.recording))

pub loop-ready-smaller : goal.loop-ready-smaller
loop-ready-smaller c =
    let done = c.in_ok-take_round.ensures in
    fewer_left c.loop-ready.invariant c.in-Some.ready c.in-Some.ensures c.take_round.new.tally
    c.take_round.new.list.items done.plan done.all done.counts done.list

pub loop-ready-preserved : goal.loop-ready-preserved
loop-ready-preserved c =
    let done = c.in_ok-take_round.ensures in
    so_far_on c.loop-ready.invariant c.in-Some.ready c.in-Some.ensures c.take_round.new.tally
    c.take_round.new.list.items done.plan done.all done.counts done.list

pub returns-clause-rounds : goal.returns-clause-rounds
returns-clause-rounds c = c.from_vec.ensures ∙ so_far_end c.loop-ready.invariant c.in_default.ensures

pub returns-clause-ordered : goal.returns-clause-ordered
returns-clause-ordered c =
    let a = c.args.audited.now in
    subst (λ (l : List ℕ). IsReplayOrder (plan_of a.which a.recording) l) (sym (returns-clause-rounds c))
    (rounds_ordered (plan_of a.which a.recording))

pub returns-clause-whole : goal.returns-clause-whole
returns-clause-whole c =
    let a = c.args.audited.now in
    subst (λ (l : List ℕ). IsWhole (plan_of a.which a.recording) l) (sym (returns-clause-rounds c))
    (rounds_whole a.which a.recording c.recording.ensures.valid c.outcome.ensures.passed.determinate)
