-- The word found is one that some write left which the seat may see; the instruction retires with it. In a determinate
-- recording there is only the low order's.
use Rattle.std.proofs.Common.{rules, ◌≡◌, refl, subst, ◌∙◌}
use Rattle.rv_core.specs.Steps.{need, after}
use Rattle.replay_core.specs.Plans.{plan_of, recorded_image}
use Rattle.replay_table.specs.Accesses.{Loads, is_load}
use Rattle.replay_table.specs.Seats.{IsLowValue, RunsOn, Sitting, Tied}
use Rattle.replay_table.proofs.Uses.{going}
use Rattle.replay_table.proofs.Calls.{Found, found, loads_found, after_is, notes_is, can_finish, inside_due}
use Rattle.replay_table.proofs.Calls.{asked_at, fits_note, inside_asked, inside_room}
use Rattle.replay_table.proofs.LocalRuns.{gone_ahead, same_run, tied_on, until_within}
use Rattle.replay_table.proofs.Lookups.{gone_on, look_on}
use Rattle.replay_table.proofs.Lows.{loaded_low}
use Rattle.replay_table.proofs.Owes.{load_owes}
use Rattle.replay_table.proofs.Ties.{load_ties}
use Rattle.replay_table.proofs.table.ReplayTable.load_on.Given.{Over}
use Rattle.replay_table.proofs.table.ReplayTable.load_on.Goals as goal
use Rattle.replay_table.proofs.table.ReplayTable.load_on.Goals.{In-Some, After-note, After-run_on}

-- what the word was found by
module _ (g : Over) (c : In-Some g) where
  there : Found (recorded_image g.J.Job.recording) c.seat.inside.past.core c.access-used.result c.in-Some.word
  there = found _ _ _ _ _ _ c.seat.invariant.1.upcoming.need c.access-used.ensures c.in-Some.is

  loads : Loads (need (recorded_image g.J.Job.recording) c.seat.inside.past.core) c.in-Some.word
  loads = loads_found _ _ _ _ there (inside_asked is_load _ _ _ _ _ c.seat.view_is c.requires.load)

-- the seat whose core has gone on
module _ (g : Over) (c : After-note g) where
  made : c.finish.new.self.core ≡ after (recorded_image g.J.Job.recording) c.seat.inside.past.core c.load-found.result
  made = after_is _ _ _ _ _ _ (c.image.ensures ∙ c.self.invariant.image_is) refl c.finish.ensures.core

  tied : Found (recorded_image g.J.Job.recording) c.seat.inside.past.core c.access-used.result c.in-Some.word
      → Loads (need (recorded_image g.J.Job.recording) c.seat.inside.past.core) c.in-Some.word
      → Tied (plan_of g.J.Job.which g.J.Job.recording) c.note.new.self c.seat.inside.seen.items c.seat.inside.held
      c.load-found.new.seat.me.0
  tied f a = load_ties _ _ _ _ _ _ _ _ _ c.seat.invariant.1.tied c.load-found.ensures.2.0.step a
      (inside_due _ _ _ _ _ c.seat.view_is c.requires.ready)
      (notes_is _ _ _ _ _ _ _ made c.finish.ensures.loads c.finish.ensures.touched f.used_is c.note.ensures)

pub load-found-requires : goal.load-found-requires
load-found-requires g c =
    asked_at c.seat.view_is c.requires.table c.self.view_is c.self.invariant c.seat.invariant.1.tied c.requires.ready
    (loads g (goal.at.load-found-requires g c).In-Some) (load_owes _ _ _ _ _ _ _)

-- and has run on
module _ (g : Over) (c : After-run_on g) where
  run : RunsOn g.J.Job.which g.J.Job.recording c.args.until c.note.new.self.core c.run_on.new.past.core
  run = same_run _ _ _ _ _ _ _ c.self.invariant.which_is c.self.invariant.recording_is c.run_on.ensures.run

pub invariant_of-seat : goal.invariant_of-seat
invariant_of-seat g c =
    let at = goal.at.invariant_of-seat g c in (
      c.load-found.ensures.2.1 ∙ c.seat.invariant.0,
      gone_on _ _ _ _ _ _ _ _ _ _ _ _ _ _ _ c.seat.invariant.1 c.self.invariant.which_is
          c.self.invariant.recording_is refl c.run_on.ensures.upcoming
          (tied_on _ _ _ _ _ _ _ _ (run g at.After-run_on) (tied g at.After-note (there g at.In-Some) (loads g at.In-Some)) c.run_on.ensures.loads
          c.run_on.ensures.touched),
    )

pub returns-clause-ahead : goal.returns-clause-ahead
returns-clause-ahead g c =
    let at = goal.at.returns-clause-ahead g c in
    gone_ahead g.J.Job.which g.J.Job.recording _ _ _ _ c.note.new.self.core c.run_on.new.past.core c.load-found.result c.args.until
    c.seat.view_is (c.note.ensures.core ∙ made g at.After-note) (run g at.After-run_on)

pub finish-requires : goal.finish-requires
finish-requires g c =
    let can = can_finish _ _ _ _ _ (c.image.ensures ∙ c.self.invariant.image_is) refl c.seat.invariant.1.upcoming.op
    (going _ _ _ _ (loads g (goal.at.finish-requires g c).In-Some)) in
    record { more = can.0; at_pc = can.1 }

pub note-requires : goal.note-requires
note-requires g c = record {
  room = inside_room _ _ _ _ _ c.seat.view_is c.requires.room c.finish.ensures.room;
  fits = fits_note _ _ _ _ _ _ _ _ _ _ _ _ c.seat.invariant.1.valid c.seat.invariant.1.tied
      (after_is _ _ _ _ _ _ (c.image.ensures ∙ c.self.invariant.image_is) refl c.finish.ensures.core)
      (there g (goal.at.note-requires g c).In-Some).used_is (loads g (goal.at.note-requires g c).In-Some);
}

pub run_on-requires : goal.run_on-requires
run_on-requires g c =
    let at = goal.at.run_on-requires g c in
    let is = c.note.ensures.core ∙ made g at.After-note in (
      search rules,
      (
        look_on _ _ _ _ _ _ _ _ _ _ _ _ _ _ _ _ c.seat.invariant.1 c.self.invariant.which_is
            c.self.invariant.recording_is c.self.invariant.image_is refl is
            (tied g at.After-note (there g at.In-Some) (loads g at.In-Some)),
        until_within g.J.Job.recording c.self.inside.recording.now _ _ _ _ _ _ c.args.until c.seat.view_is
            c.self.invariant.recording_is c.requires.within is,
      ),
    )

pub returns-clause-low : goal.returns-clause-low
returns-clause-low g c =
    subst (λ (x : Sitting). IsLowValue g.J.Job.which g.J.Job.recording x.core c.load-found.result) c.seat.view_is
    (loaded_low _ _ _ _ _ _ _ _ _ c.seat.invariant.1.valid c.seat.invariant.1.tied c.load-found.ensures.2.0
    (inside_asked is_load _ _ _ _ _ c.seat.view_is c.requires.load))
