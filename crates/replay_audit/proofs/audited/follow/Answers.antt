-- Run by run: the trail so far is that of the low order's front, and the lowest core that is ready goes on; where none
-- is, the front is all that there is.
use Rattle.std.proofs.Common.{◌∙◌, [], ℕ, ap, arith, length, refl, subst, sym}
use Rattle.std.specs.Prelude.{IsTrue, Some}
use Rattle.core_runs.specs.declared.running.Ran.{Ran}
use Rattle.replay_core.specs.Plans.{Plan}
use Rattle.replay_core.specs.Runs.{GoesTo, IsDoneRun, IsWholeRun}
use Rattle.replay_core.proofs.LowCounts.{below_plan, inside_plan}
use Rattle.replay_audit.specs.Trails.{Watches}
use Rattle.replay_audit.proofs.AloneAudit.{accepted, along_alone, limit_over, noted_next, number_is, short_alone, up_to}
use Rattle.replay_audit.proofs.LowAudit.{along_start, followed_by, leaves_open, passes, stuck}
use Rattle.replay_audit.proofs.LowestAlone.{gone_is, run_smaller}
use Rattle.replay_audit.proofs.audited.follow.Goals as goal

pub loop-core-init : goal.loop-core-init
loop-core-init c =
    let b = c.requires.begins in (
      [],
      along_start _ _ _ _ _ _ c.requires.valid (record {
        plan_is = b.tally_plan;
        counts_is = b.counts;
        clocks = b.clocks;
        accesses = b.accesses;
        found = b.found;
        cores_is = refl;
      }) b.replay_plan b.state,
      refl,
    )

-- ---- the lowest core that is ready goes on

pub run-until-requires-clause-inside : goal.run-until-requires-clause-inside
run-until-requires-clause-inside c =
    inside_plan _ _ _ c.loop-core.invariant.1.followed.counted _ (sym c.lowest.ensures ∙ c.in-Some.is)

pub run-until-requires-clause-below : goal.run-until-requires-clause-below
run-until-requires-clause-below c =
    below_plan _ _ _ c.loop-core.invariant.1.followed.counted _ (sym c.lowest.ensures ∙ c.in-Some.is)

-- what holds once its next instruction is noted
pub note-requires-clause-next : goal.note-requires-clause-next
note-requires-clause-next c =
    noted_next c.requires.valid c.loop-core.invariant.1 (sym c.lowest.ensures ∙ c.in-Some.is) c.next.ensures.at

pub go_on-ran-requires-clause-number : goal.go_on-ran-requires-clause-number
go_on-ran-requires-clause-number c =
    number_is c.requires.valid c.loop-core.invariant.1 (sym c.lowest.ensures ∙ c.in-Some.is) c.next.ensures.at

pub go_on-ran-requires-clause-up : goal.go_on-ran-requires-clause-up
go_on-ran-requires-clause-up c =
    up_to c.requires.valid c.loop-core.invariant.1 (sym c.lowest.ensures ∙ c.in-Some.is) c.next.ensures.at
    c.run-until.ensures

pub go_on-ran-requires-clause-limit : goal.go_on-ran-requires-clause-limit
go_on-ran-requires-clause-limit c =
    limit_over c.requires.valid c.loop-core.invariant.1 (sym c.lowest.ensures ∙ c.in-Some.is) c.next.ensures.at
    c.run-until.ensures

pub go_on-ran-requires-clause-accepts : goal.go_on-ran-requires-clause-accepts
go_on-ran-requires-clause-accepts c =
    accepted c.requires.valid c.loop-core.invariant.1 (sym c.lowest.ensures ∙ c.in-Some.is) c.next.ensures.at
    c.run-until.ensures c.in_ok-note.ensures c.next.ensures.sources (c.cores-cores.ensures.all
    ∙ ap (λ (q : Plan). length q.totals) c.requires.begins.tally_plan)

pub returns-in-Done : goal.returns-in-Done
returns-in-Done c =
    let ran : IsDoneRun Watches c.loop-core.replay.plan c.in-Some.core c.run-until.result c.loop-core.replay.state
    c.note.new.self c.go_on-ran.new.self.state c.go_on-ran.new.watch =
    subst (λ (answer : Ran). GoesTo Watches c.loop-core.replay.plan c.in-Some.core c.run-until.result
    c.loop-core.replay.state c.note.new.self answer c.go_on-ran.new.self.state c.go_on-ran.new.watch) c.in-Done.is
    c.go_on-ran.ensures.run in
    short_alone c.requires.valid c.loop-core.invariant.1 (sym c.lowest.ensures ∙ c.in-Some.is) c.next.ensures.at
    c.run-until.ensures c.in_ok-note.ensures c.next.ensures.sources (c.cores-cores.ensures.all
    ∙ ap (λ (q : Plan). length q.totals) c.requires.begins.tally_plan)
    ran.number c.go_on-ran.new.self.state c.go_on-ran.new.watch ran.goes ran.counted
    (let lt = ran.below in omega arith) ran.below ran.done
    ∙ ap (λ (n : ℕ). Some (c.in-Some.core, n)) (sym c.count-count.ensures)

-- ---- the core has gone on

pub loop-core-smaller : goal.loop-core-smaller
loop-core-smaller c =
    run_smaller c.loop-core.tally c.go_on.new.self c.in-Some.core c.run-until.result
    (inside_plan _ _ _ c.loop-core.invariant.1.followed.counted _ (sym c.lowest.ensures ∙ c.in-Some.is))
    c.run-until.ensures c.go_on.ensures

pub loop-core-preserved : goal.loop-core-preserved
loop-core-preserved c =
    let ran : IsWholeRun Watches c.loop-core.replay.plan c.in-Some.core c.run-until.result c.loop-core.replay.state
    c.note.new.self c.go_on-ran.new.self.state c.go_on-ran.new.watch =
    subst (λ (answer : Ran). GoesTo Watches c.loop-core.replay.plan c.in-Some.core c.run-until.result
    c.loop-core.replay.state c.note.new.self answer c.go_on-ran.new.self.state c.go_on-ran.new.watch) c.in-Whole.is
    c.go_on-ran.ensures.run in
    let come = along_alone c.requires.valid c.loop-core.invariant.1 (sym c.lowest.ensures ∙ c.in-Some.is)
    c.next.ensures.at c.run-until.ensures c.in_ok-note.ensures c.next.ensures.sources (c.cores-cores.ensures.all
    ∙ ap (λ (q : Plan). length q.totals) c.requires.begins.tally_plan)
    ran.number c.go_on-ran.new.self.state c.go_on-ran.new.watch ran.goes ran.counted
    (let e = ran.all in omega arith) ran.all c.go_on-ran.new.self c.go_on-ran.ensures.plan refl
    c.go_on.new.self (gone_is c.go_on.ensures refl) in (
      come.0,
      come.1,
      come.2 ∙ c.loop-core.invariant.2,
    )

-- ---- the end

pub returns-then-not-whole : goal.returns-then-not-whole
returns-then-not-whole c =
    stuck c.requires.valid c.loop-core.invariant.1 (sym c.lowest.ensures ∙ c.in_default.is) _
    (λ full. let is_whole = c.whole.ensures.1 full in let is_not = c.if-not-whole.true in cc) c.cut.ensures

pub returns-in-Some-unordered : goal.returns-in-Some-unordered
returns-in-Some-unordered c listed =
    leaves_open c.requires.valid c.loop-core.invariant.1 (sym c.lowest.ensures ∙ c.in_default.is)
    (c.whole.ensures.0 c.if-not-whole.false)
    c.unordered.ensures c.in-Some-unordered.is (subst IsTrue (sym c.loop-core.invariant.2) listed)

pub returns : goal.returns
returns c =
    followed_by c.loop-core.invariant.2
    (passes c.requires.valid c.loop-core.invariant.1 (sym c.lowest.ensures ∙ c.in_default.is)
    (c.whole.ensures.0 c.if-not-whole.false)
    _ _ _ c.unordered.ensures c.in_default-unordered.is refl refl refl)
