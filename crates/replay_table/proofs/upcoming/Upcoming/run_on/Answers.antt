-- The core either runs up to the first count that an edge leads to, or stays where it is.
use Rattle.std.proofs.Common.{ap, arith, length, refl, subst, sym, ◌∙◌, ◌<◌, ◌≤◌, ℕ, slice_index}
use Rattle.image_mem.specs.Contents.{Contents}
use Rattle.replay_core.specs.Plans.{recorded_image}
use Rattle.rv_core.specs.declared.core_state.Core.{Core}
use Rattle.replay_table.specs.Aheads.{AreLocal}
use Rattle.replay_table.specs.Seats.{Past, RunsOn}
use Rattle.replay_table.proofs.LocalRuns.{local_id, runs_on, stays_there}
use Rattle.replay_table.proofs.Lookups.{can_look}
use Rattle.replay_table.proofs.upcoming.Upcoming.run_on.Given.{Over}
use Rattle.replay_table.proofs.upcoming.Upcoming.run_on.Goals as goal
use Rattle.replay_table.proofs.upcoming.Upcoming.run_on.Goals.{After-core, then-count-end, else-count-end}

ran : (g : Over) (c : After-core g)
    → RunsOn c.args.which c.args.recording.now c.args.until c.args.past.now.core c.if-count-end.past.core
ran g c =
    let at = ap (λ (x : Core). x.count) c.core-core.ensures in
    let count = c.count.ensures in
    let most = c.min-most.ensures in
    let end = c.min-end.ensures in
    elim c.if-count-end.branch [
      | then-count-end w ↦
          let run : (n : ℕ) × AreLocal (recorded_image c.args.recording.now) n c.args.past.now.core
          c.if-count-end.past.core =
          subst (λ (i : Contents). (n : ℕ) × AreLocal i n c.args.past.now.core c.if-count-end.past.core)
          c.requires.look.image_is
          (subst (λ (p : Past). (n : ℕ) × AreLocal c.args.program.now n c.args.past.now.core p.core) (sym w.past-is)
          w.run.ensures.core) in
          let here = ap (λ (p : Past). p.core.count) w.past-is in
          let within = w.run.ensures.within in
          runs_on c.args.which c.args.recording.now c.args.until c.min-end.result run.0 c.args.past.now.core
          c.if-count-end.past.core run.1 (omega arith) (omega arith) c.requires.within
          (λ m from to. c.free_after-free.ensures c.args.which c.args.recording.now c.args.past.now.core m
          c.requires.look.valid c.requires.look.coming (omega (arith, from)) (omega (arith, to)))
      | else-count-end w ↦
          stays_there c.args.which c.args.recording.now c.args.until c.args.past.now.core c.if-count-end.past.core
          (ap (λ (p : Past). p.core) w.past-is) c.requires.look.within
    ]

pub advance-requires : goal.advance-requires
advance-requires g c =
    let r = ran g (goal.at.advance-requires g c).After-core in
    let id = local_id (recorded_image c.args.recording.now) r.locals c.args.past.now.core c.if-count-end.past.core
    r.local in
    let look = c.requires.look in
    can_look _ _ _ _ _ c.args.past.now.core c.if-count-end.past.core _ _ look.valid refl refl look.image_is
    c.core.ensures
    (subst (λ (i : ℕ). i < length c.args.recording.now.totals) (sym id) look.inside)
    (subst (λ (i : ℕ). c.if-count-end.past.core.count ≤ slice_index c.args.recording.now.totals i) (sym id) r.within)
    (ap (λ (x : Core). x.id) c.core.ensures ∙ id) look.coming

pub returns-clause-run : goal.returns-clause-run
returns-clause-run g c = ran g (goal.at.returns-clause-run g c).After-core
