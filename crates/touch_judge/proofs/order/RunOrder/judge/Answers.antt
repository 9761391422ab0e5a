-- Run by run: the touches so far are those within the counts; after the last run they are all.
use Rattle.std.proofs.Common.{◌≡◌, ◌+◌, ◌*◌, ◌<◌, ◌∙◌, ◌++◌, ◌∷◌, List, [], ℕ, ap, arith, length, refl, replicate}
use Rattle.std.proofs.Common.{subst}
use Rattle.std.proofs.Common.{sym, take}
use Rattle.std.specs.Prelude.{slice_index, slice_set}
use Rattle.std.proofs.lemmas.List.{length-replicate, take_all, take_more}
use Rattle.clock_core.specs.Counts.{no_counts}
use Rattle.race_log.specs.Sources.{log_edges}
use Rattle.replay_audit.specs.Walks.{Walked}
use Rattle.touch_judge.specs.declared.order.Run.{Run}
use Rattle.touch_judge.specs.Runs.{IsOrder, IsRunOf, after_runs, no_counts_of}
use Rattle.touch_judge.proofs.RunWalk.{after_all, after_on, run_at}
use Rattle.touch_judge.proofs.Verdict.{Judged, all_judged, judged_on, judged_start, open_not, order_there}
use Rattle.touch_judge.proofs.Verdict.{whole_acyclic, within}
use Rattle.touch_judge.proofs.order.RunOrder.judge.Goals as goal
use Rattle.touch_judge.proofs.order.RunOrder.judge.Goals.{After-as_slice-run-items}
use Rattle.touch_judge.proofs.order.RunOrder.judge.Goals.{After-places-1 as In-loop}

is_order : (c : After-as_slice-run-items) → IsOrder c.args.self.now.which c.args.self.now.recording
    c.as_slice-run-items.result.now
is_order c = order_there _ c.args.self.now c.self.inside.runs.items _ c.self.view_is
    c.as_slice-run-items.ensures.value c.self.invariant

-- the run that comes next
module _ (c : In-loop) where
  abbrev counts : List ℕ
  counts = after_runs (no_counts_of c.args.self.now.recording)
      (take c.loop-run.run-index c.as_slice-run-items.result.now)

  order : IsOrder c.args.self.now.which c.args.self.now.recording c.as_slice-run-items.result.now
  order = is_order (goal.at.pass-requires-clause-core c).After-as_slice-run-items

  next : IsRunOf (log_edges c.args.self.now.which c.args.self.now.recording) counts c.run-item.result
  next = subst (λ (x : Run). IsRunOf (log_edges c.args.self.now.which c.args.self.now.recording) counts x)
      (sym c.run-item.is)
      (run_at _ (no_counts_of c.args.self.now.recording) c.as_slice-run-items.result.now c.loop-run.run-index
      c.run-item.result order.runs_are c.loop-run-test.true)

  core_there : c.run-item.result.core < length c.args.touched.now
  core_there =
      let r = c.args.self.now.recording in
      let lt : c.run-item.result.core < length counts = next.core in
      let all : length counts ≡ length (no_counts_of r) = after_all (no_counts_of r)
      (take c.loop-run.run-index c.as_slice-run-items.result.now) in
      let zeros : length (no_counts_of r) ≡ length r.totals = length-replicate {A = ℕ} (length r.totals) 0 in
      let lists : length c.args.touched.now ≡ length r.totals = c.requires.touches.all in
      subst (λ (n : ℕ). c.run-item.result.core < n) (all ∙ zeros ∙ sym lists) lt

pub loop-run-init : goal.loop-run-init
loop-run-init c =
    let order = is_order (goal.at.loop-run-init c).After-as_slice-run-items in
    judged_start _ _ _ _ order.valid c.requires
    (c.in_ok-marks.ensures ∙ ap (λ (w : Walked). replicate (2 * w.recording.params.words) no_counts) c.self.view_is)

pub pass-requires-clause-touched : goal.pass-requires-clause-touched
pass-requires-clause-touched c = within (order c).valid c.requires c.loop-run.invariant

pub pass-requires-clause-core : goal.pass-requires-clause-core
pass-requires-clause-core c = core_there c

pub pass-requires-clause-inside : goal.pass-requires-clause-inside
pass-requires-clause-inside c =
    let lt = core_there c in
    let few = (within (order c).valid c.requires c.loop-run.invariant).few in
    let wide = c.loop-run.invariant.wide in
    omega arith

pub pass-requires-clause-place : goal.pass-requires-clause-place
pass-requires-clause-place c = (c.loop-run.invariant.placed _).within

pub pass-requires-clause-before : goal.pass-requires-clause-before
pass-requires-clause-before c = λ d some.
    let before = (c.loop-run.invariant.placed c.run-item.result.core).before d some in
    let more = (next c).more in
    omega arith

pub returns-then-not-pass : goal.returns-then-not-pass
returns-then-not-pass c =
    let there = (goal.at.returns-then-not-pass c).After-places-1 in
    let o = order there in (
      λ t. absurd (cc),
      λ det. absurd (open_not o.valid c.requires c.loop-run.invariant
          (whole_acyclic _ _ o.valid o.whole) (next there) (c.pass.ensures.open c.if-not-pass.true) det),
    )

pub loop-run-preserved : goal.loop-run-preserved
loop-run-preserved c =
    let there = (goal.at.loop-run-preserved c).After-places-1 in
    let o = order there in
    let e = c.pass.ensures in
    let all_ = c.if-not-pass.false in
    let items : List Run = c.as_slice-run-items.result.now in
    let zeros = no_counts_of c.args.self.now.recording in
    let k = c.loop-run.run-index in
    let same : after_runs zeros (take (k + 1) items)
    ≡ slice_set (after_runs zeros (take k items)) c.run-item.result.core c.run-item.result.until =
    ap (λ (l : List Run). after_runs zeros l) (take_more items k c.run-item.result c.loop-run-test.true
    ∙ ap (λ (x : Run). take k items ++ x ∷ []) (sym c.run-item.is))
    ∙ after_on zeros (take k items) c.run-item.result in
    subst (λ (l : List ℕ). Judged c.args.self.now.which c.args.self.now.recording c.args.touched.now l
    c.pass.new.places c.pass.new.self) (sym same)
    (judged_on o.valid c.requires c.loop-run.invariant (whole_acyclic _ _ o.valid o.whole) (next there)
    c.pass.new.places e.others e.more (e.place all_) (e.covered all_) (e.marked all_) e.all e.wide)

pub returns : goal.returns
returns c =
    let at = goal.at.returns c in
    let o = is_order at.After-as_slice-run-items in
    let items : List Run = c.as_slice-run-items.result.now in
    let all : take c.loop-run.run-index items ≡ items = take_all c.loop-run.run-index items
    (let f = c.loop-run-test.false in omega arith) in (
      λ t. all_judged o.valid c.requires c.loop-run.invariant
          (subst (λ (l : List Run). (i : ℕ) → i < length c.args.self.now.recording.totals →
          slice_index (after_runs (no_counts_of c.args.self.now.recording) l) i
          ≡ slice_index c.args.self.now.recording.totals i) (sym all) o.ends),
      λ det. refl,
    )
