use Rattle.std.proofs.Common.{◌<◌, ap, refl, suc, sym, subst, ◌∙◌}
use Rattle.tso_core.specs.Steppings.{left}
use Rattle.tso_outcome.proofs.RunPlaces.{Steps}
use Rattle.tso_plain.specs.Plain.{plain}
use Rattle.tso_records.specs.Standings.{TimedState}
use Rattle.tso_state.specs.Runs.{chosen}
use Rattle.tso_record.proofs.RecordedPlaces.{accepts_next, records_next, records_same}
use Rattle.tso_record.proofs.run.RecorderStepping.turn.Goals as goal

pub step_timed-requires-clause-roomy : goal.step_timed-requires-clause-roomy
step_timed-requires-clause-roomy c = c.requires.ready.0

pub step_timed-requires-clause-accepts : goal.step_timed-requires-clause-accepts
step_timed-requires-clause-accepts c =
    let r = c.args.run.now in
    λ m is. accepts_next r.machine.state r.clerk r.clerk r.choices m
    c.requires.under_way (ap (chosen (plain r.machine.state)) (sym c.next.ensures.choice) ∙ is) refl refl
    c.requires.ready.1 c.requires.ready.2

-- the step goes on in the run, and the room that is made behind it leaves all as it is
pub returns-clause-stands : goal.returns-clause-stands
returns-clause-stands c =
    let s = c.args.run.now.machine.state in
    let later = c.step_timed.new.self.state in
    let m = c.step_timed.result in
    let steps : Steps (plain s) (plain later) c.args.run.now.choices c.next.new.self m = record {
      taken = ap (chosen (plain s)) (sym c.next.ensures.choice) ∙ c.step_timed.ensures.taken.plainly;
      state = c.step_timed.ensures.moved.plainly;
      left = c.next.ensures.rest;
    } in
    let rooms = c.make_rooms.ensures in
    λ image params schedule t h.
    records_same image params schedule (suc t) _ _ _ _ _ rooms.state rooms.reduction rooms.values
    (records_next image params schedule t s later c.args.run.now.clerk c.step_timed.new.clerk
    c.args.run.now.choices c.next.new.self m c.requires.going steps c.step_timed.ensures.moved.state
    c.step_timed.ensures.told h)

pub returns-clause-ready : goal.returns-clause-ready
returns-clause-ready c =
    let ok = c.in_ok-make_rooms.ensures in
    (ok.heads, ok.ready, ok.roomy)

pub returns-clause-nearer : goal.returns-clause-nearer
returns-clause-nearer c =
    subst (λ (u : TimedState). left u < left c.args.run.now.machine.state) (sym c.make_rooms.ensures.state)
    c.step_timed.ensures.keeps.nearer
