-- Each order by its own call: what that ensures of its stop is what obeying the order means.
use Rattle.std.proofs.Common.{◌≡◌, ◌<◌, ℕ, List, Result, refl, sym, ap, subst, arith}
use Rattle.std.specs.Prelude.{IfOk}
use Rattle.gdb_packets.specs.declared.replies.Stop as stops
use Rattle.image_mem.specs.Contents.{Contents}
use Rattle.race_log.specs.declared.recording.Recording.{Recording}
use Rattle.replay_audit.specs.Audits.{Findings, PassesOf}
use Rattle.rtr_types.specs.declared.core_set.CoreSet.{CoreSet}
use Rattle.debug_place.specs.Places.{Placed}
use Rattle.gdb_moves.specs.declared.direction.Direction.{Direction}
use Rattle.gdb_moves.specs.declared.direction.Direction.TheVariants.{Forward, Back}
use Rattle.gdb_moves.specs.declared.order.Order.{Order}
use Rattle.gdb_moves.specs.declared.order.Order.TheVariants.{GoWith}
use Rattle.gdb_moves.specs.declared.points.Point.{Point}
use Rattle.gdb_moves.specs.Directions.{faulting}
use Rattle.gdb_moves.specs.Ends.{end_in, end_of}
use Rattle.gdb_moves.specs.Moves.{Goes, GoesWith, Obeys, Steps, StepsIn}
use Rattle.gdb_moves.specs.Moves.{IsWithin}
use Rattle.gdb_moves.specs.Sights.{Sees}
use Rattle.gdb_moves.specs.Stopping.{Stopping, stopping_by}
use Rattle.gdb_moves.proofs.EndLemmas.{same_move, still_of}
use Rattle.gdb_moves.proofs.moves.obey.Goals as goal

pub pausing-paused-requires : goal.pausing-paused-requires
pausing-paused-requires c =
    let old = c.args.place.now in
    let inside : c.in-Step.core < old.recording.params.cores =
    subst (λ (o : Order). IsWithin o old.recording.params.cores) c.in-Step.is c.requires.within in
    let same = ap (λ (r : Recording). r.params.cores) c.requires.sees.run.recording in
    let few = c.recording.ensures.valid.params.cores in
    let here = ap (λ (r : Recording). r.params.cores) c.recording.ensures.recording in
    omega arith

pub step_core-requires-clause-run : goal.step_core-requires-clause-run
step_core-requires-clause-run c = still_of _ _ _ c.new-hearing.ensures.audited c.requires.sees.run

pub go-requires-clause-run : goal.go-requires-clause-run
go-requires-clause-run c = still_of _ _ _ c.new-hearing-in-Go.ensures.audited c.requires.sees.run

pub go_with-requires-clause-run : goal.go_with-requires-clause-run
go_with-requires-clause-run c = still_of _ _ _ c.new-hearing-in-GoWith.ensures.audited c.requires.sees.run

pub go_back_with-requires-clause-run : goal.go_back_with-requires-clause-run
go_back_with-requires-clause-run c = still_of _ _ _ c.new-hearing-in-GoWith.ensures.audited c.requires.sees.run

-- a move that was made by what the hearing stops at is what the order comes to
obeyed : {E : Type 0} (result : Result stops.Stop E) (a : Findings) (image : Contents) (old new : Placed)
    (points : List Point) (order kind : Order) (paused other heard more : CoreSet) (made : Stopping)
    (moves : Stopping → stops.Stop → Type 0) → order ≡ kind → Sees a image old → PassesOf a →
    made ≡ stopping_by points paused heard (end_in image a.outcome) → paused ≡ other → heard ≡ more →
    (IfOk result (moves (stopping_by points other more (end_of old))) → IfOk result (Obeys points kind old new)) →
    IfOk result (moves made) → IfOk result (Obeys points order old new)
obeyed result a image old new points order kind paused other heard more made moves is sees passes made_is p h obeys
    moved =
    subst (λ (o : Order). IfOk result (Obeys points o old new)) (sym is)
    (obeys (same_move a image old points paused other heard more made (λ (s : Stopping). IfOk result (moves s)) sees
    passes made_is p h moved))

pub returns-in-Step-clause-obeys : goal.returns-in-Step-clause-obeys
returns-in-Step-clause-obeys c =
    let on = c.in-Step in
    obeyed c.step_core.result _ _ _ c.step_core.new.place c.args.points.now _ _ _ _ _ _ _
    (λ s. Steps on.direction s on.core c.args.place.now c.step_core.new.place) on.is c.requires.sees
    c.outcome.ensures.passed c.new-hearing.ensures.stopping c.pausing-paused.ensures c.faulting.ensures (λ h. h)
    c.step_core.ensures.steps

pub returns-in-StepIn-clause-obeys : goal.returns-in-StepIn-clause-obeys
returns-in-StepIn-clause-obeys c =
    let on = c.in-StepIn in
    obeyed c.step_in.result _ _ _ c.step_in.new.place c.args.points.now _ _ _ _ _ _ _
    (λ s. StepsIn on.range s on.core c.args.place.now c.step_in.new.place) on.is c.requires.sees
    c.outcome.ensures.passed c.new-hearing-in-StepIn.ensures.stopping c.pausing-paused-in-StepIn.ensures refl (λ h. h)
    c.step_in.ensures.steps

pub returns-in-Go-clause-obeys : goal.returns-in-Go-clause-obeys
returns-in-Go-clause-obeys c =
    let on = c.in-Go in
    obeyed c.go.result _ _ _ c.go.new.place c.args.points.now _ _ _ _ _ _ _
    (λ s. Goes on.direction s on.lead c.args.place.now c.go.new.place) on.is c.requires.sees c.outcome.ensures.passed
    c.new-hearing-in-Go.ensures.stopping refl c.faulting-in-Go.ensures (λ h. h) c.go.ensures.goes

-- and so are turns that were taken in its direction
same_turns : {E : Type 0} (result : Result stops.Stop E) (a : Findings) (image : Contents) (old new : Placed)
    (points : List Point) (order : Order) (direction way : Direction) (lead : ℕ) (cores heard faults : CoreSet)
    (made : Stopping) → order ≡ GoWith direction lead cores heard → direction ≡ way → Sees a image old →
    PassesOf a → made ≡ stopping_by points heard faults (end_in image a.outcome) →
    faults ≡ faulting direction heard → IfOk result (GoesWith way made cores lead old new) →
    IfOk result (Obeys points order old new)
same_turns result a image old new points order direction way lead cores heard faults made order_is way_is sees passes
    made_is faults_are goes =
    obeyed result a image old new points order (GoWith direction lead cores heard) heard heard faults
    (faulting direction heard) made (λ s. GoesWith direction s cores lead old new) order_is sees passes made_is refl
    faults_are (λ h. h)
    (subst (λ (d : Direction). IfOk result (GoesWith d made cores lead old new)) (sym way_is) goes)

pub returns-in-Forward-clause-obeys : goal.returns-in-Forward-clause-obeys
returns-in-Forward-clause-obeys c =
    same_turns c.go_with.result _ _ _ c.go_with.new.place c.args.points.now _ _ Forward _ _ _ _ _ c.in-GoWith.is
    c.in-Forward.is c.requires.sees c.outcome.ensures.passed c.new-hearing-in-GoWith.ensures.stopping
    c.faulting-in-GoWith.ensures c.go_with.ensures.goes

pub returns-in-Back-clause-obeys : goal.returns-in-Back-clause-obeys
returns-in-Back-clause-obeys c =
    same_turns c.go_back_with.result _ _ _ c.go_back_with.new.place c.args.points.now _ _ Back _ _ _ _ _ c.in-GoWith.is
    c.in-Back.is c.requires.sees c.outcome.ensures.passed c.new-hearing-in-GoWith.ensures.stopping
    c.faulting-in-GoWith.ensures c.go_back_with.ensures.goes
