-- A store of a whole word needs nothing of the word before: it is put, and the seat goes on.
use Rattle.std.proofs.Common.{rules, ◌≡◌, refl, ◌∙◌}
use Rattle.rv_core.specs.Steps.{need, after, is_whole}
use Rattle.replay_core.specs.Plans.{plan_of, recorded_image}
use Rattle.rv_core.specs.Needs.{is_writing}
use Rattle.replay_table.specs.Accesses.{Stores}
use Rattle.replay_table.specs.Seats.{RunsOn, Tied}
use Rattle.replay_table.proofs.Uses.{going}
use Rattle.replay_table.proofs.Calls.{Found, found, stores_found, after_is, wrote_is, notes_is, can_finish}
use Rattle.replay_table.proofs.Calls.{asked_at, fits_note, inside_asked, inside_due, inside_room}
use Rattle.replay_table.proofs.LocalRuns.{gone_ahead, same_run, tied_on, until_within}
use Rattle.replay_table.proofs.Lookups.{gone_on, look_on}
use Rattle.replay_table.proofs.Owes.{store_owes}
use Rattle.replay_table.proofs.Ties.{store_ties}
use Rattle.replay_table.proofs.table.ReplayTable.store_on.Given.{Over}
use Rattle.replay_table.proofs.table.ReplayTable.store_on.Goals as goal
use Rattle.replay_table.proofs.table.ReplayTable.store_on.Goals.{In-Some, After-note, After-run_on}

-- the store that is due
module _ (g : Over) (c : In-Some g) where
  there : Found (recorded_image g.J.Job.recording) c.seat.inside.past.core c.access-used.result c.in-Some.word
  there = found _ _ _ _ _ _ c.seat.invariant.1.upcoming.need c.access-used.ensures c.in-Some.is

  stores : Stores (need (recorded_image g.J.Job.recording) c.seat.inside.past.core) c.in-Some.word
  stores = stores_found _ _ _ _ there
      (inside_asked is_writing _ _ _ _ _ c.seat.view_is c.requires.write)
      (inside_asked is_whole _ _ _ _ _ c.seat.view_is c.requires.whole)

-- the seat whose core has stored
module _ (g : Over) (c : After-note g) where
  made : c.finish-value.new.self.core ≡ after (recorded_image g.J.Job.recording) c.seat.inside.past.core 0
  made = after_is _ _ _ _ _ _ (c.image.ensures ∙ c.self.invariant.image_is) refl c.finish-value.ensures.core

  tied : Found (recorded_image g.J.Job.recording) c.seat.inside.past.core c.access-used.result c.in-Some.word
      → Stores (need (recorded_image g.J.Job.recording) c.seat.inside.past.core) c.in-Some.word
      → Tied (plan_of g.J.Job.which g.J.Job.recording) c.note.new.self c.seat.inside.seen.items c.seat.inside.held
      c.store.new.seat.me.0
  tied f a = store_ties _ _ _ _ _ _ _ _ _ c.seat.invariant.1.tied c.store.ensures.2.0.step a
      (inside_due _ _ _ _ _ c.seat.view_is c.requires.ready)
      (notes_is _ _ _ _ _ _ _ made c.finish-value.ensures.loads c.finish-value.ensures.touched f.used_is c.note.ensures)

pub store-requires : goal.store-requires
store-requires g c =
    asked_at c.seat.view_is c.requires.table c.self.view_is c.self.invariant c.seat.invariant.1.tied c.requires.ready
    (stores g (goal.at.store-requires g c).In-Some)
    (λ next is. store_owes _ _ _ _ _ _ _ _ next is
    (wrote_is _ _ _ _ _ _ (c.image.ensures ∙ c.self.invariant.image_is) refl c.finish-value.ensures.value))

-- and has run on
module _ (g : Over) (c : After-run_on g) where
  run : RunsOn g.J.Job.which g.J.Job.recording c.args.until c.note.new.self.core c.run_on.new.past.core
  run = same_run _ _ _ _ _ _ _ c.self.invariant.which_is c.self.invariant.recording_is c.run_on.ensures.run

pub invariant_of-seat : goal.invariant_of-seat
invariant_of-seat g c =
    let at = goal.at.invariant_of-seat g c in (
      c.store.ensures.2.1 ∙ c.seat.invariant.0,
      gone_on _ _ _ _ _ _ _ _ _ _ _ _ _ _ _ c.seat.invariant.1 c.self.invariant.which_is
          c.self.invariant.recording_is refl c.run_on.ensures.upcoming
          (tied_on _ _ _ _ _ _ _ _ (run g at.After-run_on) (tied g at.After-note (there g at.In-Some) (stores g at.In-Some)) c.run_on.ensures.loads
          c.run_on.ensures.touched),
    )

pub returns-clause-ahead : goal.returns-clause-ahead
returns-clause-ahead g c =
    let at = goal.at.returns-clause-ahead g c in
    gone_ahead g.J.Job.which g.J.Job.recording _ _ _ _ c.note.new.self.core c.run_on.new.past.core 0 c.args.until
    c.seat.view_is (c.note.ensures.core ∙ made g at.After-note) (run g at.After-run_on)

pub finish-value-requires : goal.finish-value-requires
finish-value-requires g c =
    let can = can_finish _ _ _ _ _ (c.image.ensures ∙ c.self.invariant.image_is) refl c.seat.invariant.1.upcoming.op
    (going _ _ _ _ (stores g (goal.at.finish-value-requires g c).In-Some)) in
    record { more = can.0; at_pc = can.1 }

pub note-requires : goal.note-requires
note-requires g c = record {
  room = inside_room _ _ _ _ _ c.seat.view_is c.requires.room c.finish-value.ensures.room;
  fits = fits_note _ _ _ _ _ _ _ _ _ _ _ _ c.seat.invariant.1.valid c.seat.invariant.1.tied
      (after_is _ _ _ _ _ _ (c.image.ensures ∙ c.self.invariant.image_is) refl c.finish-value.ensures.core)
      (there g (goal.at.note-requires g c).In-Some).used_is (stores g (goal.at.note-requires g c).In-Some);
}

pub run_on-requires : goal.run_on-requires
run_on-requires g c =
    let at = goal.at.run_on-requires g c in
    let is = c.note.ensures.core ∙ made g at.After-note in (
      search rules,
      (
        look_on _ _ _ _ _ _ _ _ _ _ _ _ _ _ _ _ c.seat.invariant.1 c.self.invariant.which_is
            c.self.invariant.recording_is c.self.invariant.image_is refl is
            (tied g at.After-note (there g at.In-Some) (stores g at.In-Some)),
        until_within g.J.Job.recording c.self.inside.recording.now _ _ _ _ _ _ c.args.until c.seat.view_is
            c.self.invariant.recording_is c.requires.within is,
      ),
    )
