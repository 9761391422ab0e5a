-- The core's own run is places of the play, and its memory and notes are as many as before.
use Rattle.std.proofs.Common.{◌≡◌, ◌∙◌, ◌<◌, List, length, ap, sym, subst, arith}
use Rattle.std.specs.Prelude.{slice_set, slice_index_or}
use Rattle.std.proofs.lemmas.List.{get_or_default, length-set, set-get_or}
use Rattle.rv_core.specs.declared.core_state.Core.{Core}
use Rattle.rv_core.specs.declared.outcome.Outcome.{Outcome}
use Rattle.rv_core.specs.States.{starting}
use Rattle.replay_core.specs.Plans.{plan_of}
use Rattle.replay_core.specs.Answers.{UnderWay}
use Rattle.replay_core.specs.Play.{core_at}
use Rattle.replay_core.specs.Runs.{GoesTo}
use Rattle.replay_core.proofs.AloneRuns.{run_alone, run_keeps}
use Rattle.replay_core.proofs.replay.Replay.go_on.Given.{Over}
use Rattle.replay_core.proofs.replay.Replay.go_on.Goals as goal

-- the core that runs is one of the replay's
below : (g : Over) (c : goal.After-self-1 g) → c.args.core < length c.self.inside.cores.items
below g c =
    let inside = subst (λ (u : UnderWay). c.args.core < length u.plan.totals) (sym c.self.view_is) c.requires.inside in
    let all = c.self.invariant in
    omega (arith, all.all_cores, all.valid.each_core)

here : (g : Over) (c : goal.After-self-1 g) →
    c.index_mut.result.now ≡ slice_index_or c.self.inside.cores.items c.args.core (starting 0 0)
here g c =
    c.index_mut.ensures.value
    ∙ get_or_default c.self.inside.cores.items c.args.core c.index_mut.result.now (starting 0 0) (below g c)

number : (g : Over) (c : goal.After-self-1 g) → c.index_mut.result.now.id ≡ c.args.core
number g c =
    ap (λ (k : Core). k.id) (here g c)
    ∙ ap (λ (u : UnderWay). (core_at u.state c.args.core).id) c.self.view_is ∙ c.requires.number

pub invariant_of-self : goal.invariant_of-self
invariant_of-self g c =
    let all = c.self.invariant in
    let cores = c.self.inside.cores.items in
    let keeps = run_keeps g.W.Watch.touched (plan_of c.self.inside.which c.self.inside.recording.now)
    c.self.inside.program all.image_is cores c.args.core (below g c) c.args.until c.index_mut.result.now
    c.self.inside.noted c.args.watch.now c.run.result c.run.new.core c.run.new.reach c.run.new.watch (number g c)
    c.run.ensures in
    record {
      valid = all.valid;
      image_is = all.image_is;
      all_cores = length-set cores c.args.core c.run.new.core ∙ all.all_cores;
      all_words = keeps.0 ∙ all.all_words;
      all_loads = keeps.1 ∙ all.all_loads;
    }

pub returns-clause-run : goal.returns-clause-run
returns-clause-run g c =
    let p = plan_of c.self.inside.which c.self.inside.recording.now in
    let cores = c.self.inside.cores.items in
    let noted = c.self.inside.noted in
    let same : slice_set cores c.args.core c.index_mut.result.now ≡ cores =
    ap (λ (k : Core). slice_set cores c.args.core k) (here g c) ∙ set-get_or cores c.args.core (starting 0 0) in
    let end : Outcome = record {
      cores = slice_set cores c.args.core c.run.new.core;
      words = c.run.new.reach.memory;
      loads = c.run.new.reach.loads.lists;
    } in
    let run = run_alone g.W.Watch.touched p c.self.inside.program c.self.invariant.image_is cores c.args.core
    (below g c) c.args.until c.index_mut.result.now noted c.args.watch.now c.run.result c.run.new.core
    c.run.new.reach c.run.new.watch (number g c) c.run.ensures in
    subst (λ (u : UnderWay). GoesTo g.W.Watch.touched u.plan c.args.core c.args.until u.state c.args.watch.now
    c.run.result end c.run.new.watch) c.self.view_is
    (subst (λ (l : List Core). GoesTo g.W.Watch.touched p c.args.core c.args.until
    (record { cores = l; words = noted.memory; loads = noted.loads.lists }) c.args.watch.now c.run.result end
    c.run.new.watch) same run)
