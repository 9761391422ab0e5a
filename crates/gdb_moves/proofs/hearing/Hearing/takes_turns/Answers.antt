use Rattle.std.proofs.Common.{◌≡◌, ◌∙◌, ℕ, sym, ap, subst}
use Rattle.std.specs.Prelude.{None, Option}
use Rattle.race_log.specs.declared.recording.Recording.{Recording}
use Rattle.race_log.specs.Validity.{Valid}
use Rattle.replay_audit.specs.Determinate.{IsDeterminate}
use Rattle.rtr_types.specs.declared.pairs.Which.{Which}
use Rattle.gdb_moves.specs.Directions.{GoesTo}
use Rattle.gdb_moves.specs.Stopping.{stopping_of, stops_at}
use Rattle.gdb_moves.proofs.LeapEnds.{back_there, leaps_in}
use Rattle.gdb_moves.proofs.hearing.Hearing.takes_turns.Goals as goal

pub returns-in-None-clause-leapt : goal.returns-in-None-clause-leapt
returns-in-None-clause-leapt c =
    let a = c.args.self.now.audited.now in
    let place = c.args.place.now in
    let direction = c.args.direction in
    let stopping = stopping_of c.args.self.now in
    let valid : Valid place.recording =
    subst (λ (r : Recording). Valid r) c.requires.run.recording c.recording.ensures.valid in
    let determinate : IsDeterminate place.which place.recording =
    subst (λ (w : Which). IsDeterminate w place.recording) c.requires.run.which
    (subst (λ (r : Recording). IsDeterminate a.which r) c.requires.run.recording
    c.outcome.ensures.passed.determinate) in
    leaps_in direction stopping c.args.cores place c.go_to.new.place c.args.number c.in_ok-to.to valid determinate
    c.cut-here.ensures.stands c.go_to.ensures.kept c.cut.ensures.stands c.requires.number c.in_ok-to.ensures
    (subst (λ (o : Option ℕ). GoesTo direction (stops_at stopping) place c.in_ok-to.to c.go_to.new.place o)
    c.in-None.is c.in_ok-go_to.ensures.goes)

pub returns-in_ok-seek-in-Some-clause-leapt : goal.returns-in_ok-seek-in-Some-clause-leapt
returns-in_ok-seek-in-Some-clause-leapt c =
    let a = c.args.self.now.audited.now in
    let place = c.args.place.now in
    let mid = c.go_to.new.place in
    let valid : Valid place.recording =
    subst (λ (r : Recording). Valid r) c.requires.run.recording c.recording.ensures.valid in
    let determinate : IsDeterminate place.which place.recording =
    subst (λ (w : Which). IsDeterminate w place.recording) c.requires.run.which
    (subst (λ (r : Recording). IsDeterminate a.which r) c.requires.run.recording
    c.outcome.ensures.passed.determinate) in
    back_there place mid c.seek.new.self valid determinate c.cut-here.ensures.stands c.go_to.ensures.kept
    c.in_ok-seek-in-Some.ensures.kept c.cut-in-Some.ensures.stands (c.in_ok-seek-in-Some.ensures.ok ∙ c.cut-here.ensures.cut)
