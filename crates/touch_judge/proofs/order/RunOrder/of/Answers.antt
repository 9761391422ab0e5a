-- Run by run: the lowest core that is ready goes on; where none is, the log's low order ends.
use Rattle.std.proofs.Common.{◌≡◌, ◌++◌, ◌∷◌, ◌∙◌, List, [], ℕ, ap, refl, sym, subst}
use Rattle.std.specs.Prelude.{slice_set}
use Rattle.race_log.specs.Sources.{log_edges}
use Rattle.replay_core.specs.Tallies.{Tallied}
use Rattle.replay_core.proofs.LowCounts.{below_plan, inside_plan}
use Rattle.replay_audit.proofs.LowWalk.{can_note, low_whole, walking_start}
use Rattle.replay_audit.proofs.LowestAlone.{gone_is, run_smaller}
use Rattle.replay_audit.proofs.Logs.{closed_none}
use Rattle.touch_judge.specs.Runs.{AreRuns, IsRunOf, after_runs, no_counts_of}
use Rattle.touch_judge.specs.declared.order.Run.{Run}
use Rattle.touch_judge.proofs.RunWalk.{HasCome, after_on, come_run, is_run, order_is, runs_on}
use Rattle.touch_judge.proofs.order.RunOrder.of.Goals as goal

pub loop-core-init : goal.loop-core-init
loop-core-init c = record {
  come = (
    [],
    record {
      walking = walking_start _ _ _ _ _ c.requires c.in_ok-tally.ensures.plan c.in_ok-tally.ensures.counts
          c.cores.ensures.all c.in_ok-clocks.ensures;
      closed = closed_none _ _ c.requires;
    },
  );
  counts = c.in_ok-tally.ensures.counts
      ∙ ap (λ (l : List Run). after_runs (no_counts_of c.args.recording.now) l) (sym c.new-runs.ensures.items);
  runs = subst (λ (l : List Run). AreRuns (log_edges c.args.which c.args.recording.now)
      (no_counts_of c.args.recording.now) l) (sym c.new-runs.ensures.items) tt;
}

pub run-until-requires-clause-inside : goal.run-until-requires-clause-inside
run-until-requires-clause-inside c =
    inside_plan _ _ _ c.loop-core.invariant.come.1.walking.counted _ (sym c.lowest.ensures ∙ c.in-Some.is)

pub run-until-requires-clause-below : goal.run-until-requires-clause-below
run-until-requires-clause-below c =
    below_plan _ _ _ c.loop-core.invariant.come.1.walking.counted _ (sym c.lowest.ensures ∙ c.in-Some.is)

pub note-requires-clause-next : goal.note-requires-clause-next
note-requires-clause-next c =
    can_note c.requires c.loop-core.invariant.come.1.walking (sym c.lowest.ensures ∙ c.in-Some.is)
    c.next-next.ensures.at

pub loop-core-smaller : goal.loop-core-smaller
loop-core-smaller c =
    run_smaller c.loop-core.tally c.go_on.new.self c.in-Some.core c.run-until.result
    (inside_plan _ _ _ c.loop-core.invariant.come.1.walking.counted _ (sym c.lowest.ensures ∙ c.in-Some.is))
    c.run-until.ensures c.go_on.ensures

pub loop-core-preserved : goal.loop-core-preserved
loop-core-preserved c =
    let i = c.loop-core.invariant in
    let zeros = no_counts_of c.args.recording.now in
    let edges = log_edges c.args.which c.args.recording.now in
    let old : List Run = c.loop-core.runs.items in
    let some = sym c.lowest.ensures ∙ c.in-Some.is in
    let end = come_run c.requires i.come.1 some c.run-until.ensures c.next-next.ensures
    c.cores-in-Some.ensures.all c.in_ok-note.ensures in
    let run : Run = record {
      core = c.in-Some.core;
      until = c.run-until.result;
      clock = c.last-clock.result;
    } in
    let is : IsRunOf edges (after_runs zeros old) run =
    subst (λ (l : List ℕ). IsRunOf edges l run) i.counts
    (is_run c.requires i.come.1 some c.run-until.ensures c.next-next.ensures c.cores-in-Some.ensures.all
    c.in_ok-note.ensures c.last-clock.result c.last-clock.ensures) in
    record {
      come = (
        end.0,
        subst (λ (x : Tallied). HasCome c.args.which c.args.recording.now end.0 x c.note.new.self)
            (gone_is c.go_on.ensures refl) end.1,
      );
      counts = c.go_on.ensures.counts
          ∙ ap (λ (l : List ℕ). slice_set l c.in-Some.core c.run-until.result) i.counts
          ∙ sym (after_on zeros old run)
          ∙ ap (λ (l : List Run). after_runs zeros l) (sym c.in_ok-push.ensures.items);
      runs = subst (λ (l : List Run). AreRuns edges zeros l) (sym c.in_ok-push.ensures.items)
          (runs_on edges zeros old run i.runs is);
    }

pub returns-then-not-whole : goal.returns-then-not-whole
returns-then-not-whole c whole =
    let low = low_whole c.requires c.loop-core.invariant.come.1.walking (sym c.lowest.ensures ∙ c.in_default.is) in
    let full = c.if-not-whole.ensures.1 (low.1 whole) in
    absurd (cc)

pub invariant_of-result : goal.invariant_of-result
invariant_of-result c =
    let i = c.loop-core.invariant in
    let some = sym c.lowest.ensures ∙ c.in_default.is in
    let full = c.whole.ensures.0 c.if-not-whole.false in
    order_is c.requires i.come.1.walking some full i.counts i.runs

pub returns : goal.returns
returns c =
    let some = sym c.lowest.ensures ∙ c.in_default.is in (
      refl,
      refl,
      (low_whole c.requires c.loop-core.invariant.come.1.walking some).0 (c.whole.ensures.0 c.if-not-whole.false),
    )
