use Rattle.std.proofs.Common.{◌<◌, ◌∙◌, ap, sym, subst, ℕ}
use Rattle.std.specs.Option.{is_some}
use Rattle.rtr_types.specs.declared.core_set.CoreSet.{CoreSet}
use Rattle.access_times.specs.Times.{read_at}
use Rattle.access_times.proofs.KeptReads.{all_seen, fewer}
use Rattle.online_reduce.specs.LiveReads.{is_live_read}
use Rattle.online_reduce.proofs.SetReads.{Finding, find_live, find_not, start_finding}
use Rattle.online_reduce.proofs.live_reads.live_cores.Goals as goal

pub loop-left-init : goal.loop-left-init
loop-left-init c =
    let t = c.args.times.now in
    subst (λ (s : CoreSet). Finding c.args.cores c.args.before.now c.args.access.now t s s) (sym c.without-live.ensures)
    (start_finding c.args.cores c.args.before.now c.args.access.now t c.readers.result c.requires.own
    (λ k lt. c.readers.ensures k lt ∙ ap (λ (slot : ℕ). is_some (read_at t slot k)) c.slot_of-slot.ensures.slot))

pub loop-left-preserved : goal.loop-left-preserved
loop-left-preserved c =
    let a = c.args.access.now in
    let core = c.first_of-core.result in
    rw (c.without-left.ensures) (find_live c.args.cores c.args.before.now a c.args.times.now c.loop-left.live
    c.loop-left.left core c.is_live_read.result
    c.first_of-core.ensures.within c.first_of-core.ensures.there
    (c.is_live_read.ensures
    ∙ ap (is_live_read c.args.cores c.args.before.now a core)
    (c.last_read.ensures ∙ ap (λ (slot : ℕ). read_at c.args.times.now slot core) c.slot_of-slot.ensures.slot))
    c.if-not-is_live_read.false c.loop-left.invariant)

pub loop-left-preserved-then-not-is_live_read : goal.loop-left-preserved-then-not-is_live_read
loop-left-preserved-then-not-is_live_read c =
    let a = c.args.access.now in
    let core = c.first_of-core.result in
    rw (c.without-left.ensures, c.without-live-then-not-is_live_read.ensures)
    (find_not c.args.cores c.args.before.now a c.args.times.now c.loop-left.live c.loop-left.left core
    c.is_live_read.result
    c.first_of-core.ensures.within
    (c.is_live_read.ensures
    ∙ ap (is_live_read c.args.cores c.args.before.now a core)
    (c.last_read.ensures ∙ ap (λ (slot : ℕ). read_at c.args.times.now slot core) c.slot_of-slot.ensures.slot))
    c.if-not-is_live_read.true c.loop-left.invariant)

pub loop-left-smaller : goal.loop-left-smaller
loop-left-smaller c =
    subst (λ (s : CoreSet). s.bits < c.loop-left.left.bits) (sym c.without-left.ensures)
    (fewer c.loop-left.left c.first_of-core.result c.first_of-core.ensures.within c.first_of-core.ensures.there)

pub loop-left-smaller-then-not-is_live_read : goal.loop-left-smaller-then-not-is_live_read
loop-left-smaller-then-not-is_live_read c =
    subst (λ (s : CoreSet). s.bits < c.loop-left.left.bits) (sym c.without-left.ensures)
    (fewer c.loop-left.left c.first_of-core.result c.first_of-core.ensures.within c.first_of-core.ensures.there)

pub returns : goal.returns
returns c core lt = all_seen c.loop-left.invariant (sym c.is_empty.ensures ∙ c.loop-left-test.false) core lt lt
