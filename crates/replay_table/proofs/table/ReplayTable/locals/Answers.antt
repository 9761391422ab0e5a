-- The core is ahead by what has retired, and each of these instructions was due.
use Rattle.std.proofs.Common.{◌∙◌, ℕ, ◌+◌, ◌<◌, ◌≤◌, ap, arith, subst, sym}
use Rattle.std.specs.Prelude.{slice_index}
use Rattle.image_mem.specs.Contents.{Contents}
use Rattle.clock_core.specs.Counts.{no_counts}
use Rattle.race_log.specs.Sources.{log_edges}
use Rattle.rv_core.specs.declared.core_state.Core.{Core}
use Rattle.replay_core.specs.Plans.{plan_of, recorded_image}
use Rattle.replay_core.specs.Play.{instr}
use Rattle.replay_core.specs.Sources.{AreSources}
use Rattle.replay_table.specs.Aheads.{Ahead, AreLocal, Due}
use Rattle.replay_table.specs.Rule.{seen_of}
use Rattle.replay_table.specs.Seats.{Sitting, Tied}
use Rattle.replay_table.proofs.Calls.{inside_due}
use Rattle.replay_table.proofs.LocalRuns.{ahead_by, due_at, local_id, locals_tie}
use Rattle.replay_table.proofs.Lookups.{can_look, gone_on}
use Rattle.replay_table.proofs.table.ReplayTable.locals.Given.{Over}
use Rattle.replay_table.proofs.table.ReplayTable.locals.Goals as goal
use Rattle.replay_table.proofs.table.ReplayTable.locals.Goals.{After-core}

module _ (g : Over) (c : After-core g) where
  due : Due (plan_of g.J.Job.which g.J.Job.recording) (seen_of c.seat.inside.seat.me.0) c.seat.inside.past.core
  due = inside_due _ _ _ _ _ c.seat.view_is c.requires.ready

  run : (n : ℕ) × AreLocal (recorded_image g.J.Job.recording) n c.seat.inside.past.core c.run-ready.new.self.core
  run = subst (λ (i : Contents). (n : ℕ) × AreLocal i n c.seat.inside.past.core c.run-ready.new.self.core)
      c.self.invariant.image_is c.run-ready.ensures.core

  within : c.free_to-until.result ≤ slice_index g.J.Job.recording.totals c.seat.inside.past.core.id
  within =
      let low = c.free_to-until.ensures.within in
      let most = c.requires.within in
      subst (λ (x : Sitting). c.free_to-until.result ≤ slice_index g.J.Job.recording.totals x.core.id)
      (sym c.seat.view_is) (omega arith)

  free : (n : ℕ) → c.seat.inside.past.core.count + 1 < n → n ≤ c.free_to-until.result →
      AreSources (log_edges g.J.Job.which g.J.Job.recording) (instr c.seat.inside.past.core.id n) no_counts
  free = subst (λ (x : Sitting). (n : ℕ) → x.core.count + 1 < n → n ≤ c.free_to-until.result →
      AreSources (log_edges g.J.Job.which g.J.Job.recording) (instr x.core.id n) no_counts) (sym c.seat.view_is)
      c.free_to-until.ensures.free

  tied : Tied (plan_of g.J.Job.which g.J.Job.recording) c.run-ready.new.self c.seat.inside.seen.items
      c.seat.inside.held c.seat.inside.seat.me.0
  tied = locals_tie g.J.Job.which g.J.Job.recording c.seat.inside.past c.run-ready.new.self c.seat.inside.seen.items
      c.seat.inside.held c.seat.inside.seat.me.0 due c.free_to-until.result within free run.0
      c.seat.invariant.1.tied run.1 c.run-ready.ensures.within c.run-ready.ensures.loads c.run-ready.ensures.touched

pub advance-requires : goal.advance-requires
advance-requires g c =
    let now = run g c in
    let t = tied g c in
    can_look g.J.Job.which c.self.inside.which g.J.Job.recording c.self.inside.recording.now c.self.inside.program
    c.seat.inside.past.core c.run-ready.new.self.core c.core.result.now c.seat.inside.upcoming
    c.seat.invariant.1.valid c.self.invariant.which_is c.self.invariant.recording_is c.self.invariant.image_is
    c.core.ensures t.inside t.within
    (ap (λ (x : Core). x.id) c.core.ensures
    ∙ local_id (recorded_image g.J.Job.recording) now.0 c.seat.inside.past.core c.run-ready.new.self.core now.1)
    c.seat.invariant.1.upcoming.coming

pub invariant_of-seat : goal.invariant_of-seat
invariant_of-seat g c = (
  c.seat.invariant.0,
  gone_on _ _ _ _ _ _ _ _ _ _ _ _ _ _ _ c.seat.invariant.1 c.self.invariant.which_is c.self.invariant.recording_is
      c.core.ensures c.advance.ensures (tied g (goal.at.invariant_of-seat g c).After-core),
)

pub returns-clause-ahead : goal.returns-clause-ahead
returns-clause-ahead g c =
    let at = (goal.at.returns-clause-ahead g c).After-core in
    let now = run g at in (
      now.0,
      subst (λ (x : Sitting). Ahead (plan_of g.J.Job.which g.J.Job.recording) (seen_of x.view) now.0 x.core
          c.run-ready.new.self.core) c.seat.view_is
          (ahead_by g.J.Job.which g.J.Job.recording (seen_of c.seat.inside.seat.me.0) c.seat.inside.past.core
          (due g at) c.free_to-until.result (within g at) (free g at) now.0 c.run-ready.new.self.core now.1
          c.run-ready.ensures.within),
    )

pub returns-clause-ready : goal.returns-clause-ready
returns-clause-ready g c = λ is.
    let at = (goal.at.returns-clause-ready g c).After-core in
    let now = run g at in
    due_at g.J.Job.which g.J.Job.recording (seen_of c.seat.inside.seat.me.0) c.seat.inside.past.core (due g at)
    c.free_to-until.result (within g at) (free g at) now.0 c.run-ready.new.self.core now.1
    (c.run-ready.ensures.sooner is)
