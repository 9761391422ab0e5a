-- How the cores' programs end, by the audit's outcome and the image at hand.
use Rattle.std.proofs.Common.{◌≡◌, ℕ, List, ap, refl, subst, sym, ◌∙◌}
use Rattle.image_mem.specs.Contents.{Contents}
use Rattle.rtr_types.specs.declared.core_set.CoreSet.{CoreSet}
use Rattle.rtr_types.specs.declared.pairs.Which.{Which}
use Rattle.race_log.specs.declared.recording.Recording.{Recording}
use Rattle.race_log.specs.Validity.{Valid}
use Rattle.rv_core.specs.declared.core_state.Stop.{Stop}
use Rattle.rv_core.specs.declared.outcome.Outcome.{Outcome}
use Rattle.replay_core.specs.Plans.{recorded_image}
use Rattle.replay_audit.specs.Audits.{Findings, PassesOf}
use Rattle.replay_audit.specs.Determinate.{low_outcome}
use Rattle.cut_replay.specs.ClosedCuts.{IsClosed}
use Rattle.cut_moves.proofs.Hulls.{whole_closed}
use Rattle.cut_moves.specs.Steps.{IsWholeCut}
use Rattle.debug_place.specs.Places.{Placed}
use Rattle.rtr_types.specs.declared.cut.Cut.{Cut}
use Rattle.gdb_moves.specs.declared.points.Point.{Point}
use Rattle.gdb_moves.specs.Ends.{end_in, end_of}
use Rattle.gdb_moves.specs.Sights.{IsOf, Sees}
use Rattle.gdb_moves.specs.Stopping.{Stopping, stopping_by}

-- a place of an audit is one of the same audit
pub still_of : (a b : Findings) (place : Placed) → b ≡ a → IsOf a place → IsOf b place
still_of a b place same run = subst (λ (f : Findings). IsOf f place) (sym same) run

pub same_ends : (a : Findings) (image : Contents) (place : Placed) (outcome : Outcome) → Sees a image place →
    PassesOf a → outcome ≡ a.outcome → ◌≡◌ {A = ℕ → Stop} (end_in image outcome) (end_of place)
same_ends a image place outcome sees passed is =
    let outcome_is : outcome ≡ low_outcome place.which place.recording =
    is ∙ passed.outcome_is ∙ ap (λ (w : Which). low_outcome w a.recording) sees.run.which
    ∙ ap (λ (r : Recording). low_outcome place.which r) sees.run.recording in
    ap (λ (i : Contents). end_in i outcome) sees.image_is
    ∙ ap (λ (o : Outcome). end_in (recorded_image place.recording) o) outcome_is

-- what stops a move, by the audit, said of the place
pub same_stopping : (a : Findings) (image : Contents) (place : Placed) (points : List Point) (paused other : CoreSet)
    (heard more : CoreSet) → Sees a image place → PassesOf a → paused ≡ other → heard ≡ more →
    stopping_by points paused heard (end_in image a.outcome) ≡ stopping_by points other more (end_of place)
same_stopping a image place points paused other heard more sees passes p h =
    ap (λ (s : CoreSet). stopping_by points s heard (end_in image a.outcome)) p
    ∙ ap (λ (s : CoreSet). stopping_by points other s (end_in image a.outcome)) h
    ∙ ap (λ (f : ℕ → Stop). stopping_by points other more f) (same_ends a image place a.outcome sees passes refl)

-- the whole cut, said of the place's recording
pub whole_at : (a : Findings) (place : Placed) (to : Cut) → IsOf a place → IsWholeCut a.recording to →
    IsWholeCut place.recording to
whole_at a place to run all = subst (λ (r : Recording). IsWholeCut r to) run.recording all

pub closed_at : (a : Findings) (place : Placed) (to : Cut) → IsOf a place → Valid a.recording →
    IsWholeCut a.recording to → IsClosed place.which place.recording to
closed_at a place to run valid all =
    subst (λ (w : Which). IsClosed w place.recording to) run.which
    (subst (λ (r : Recording). IsClosed a.which r to) run.recording (whole_closed a.which a.recording to valid all))

-- so a move that was made by what the hearing stops at was made by what the place's points stop at
pub same_move : (a : Findings) (image : Contents) (place : Placed) (points : List Point) (paused other : CoreSet)
    (heard more : CoreSet) (made : Stopping) (moves : Stopping → Type 0) → Sees a image place → PassesOf a →
    made ≡ stopping_by points paused heard (end_in image a.outcome) → paused ≡ other → heard ≡ more → moves made →
    moves (stopping_by points other more (end_of place))
same_move a image place points paused other heard more made moves sees passes made_is p h m =
    subst (λ (s : Stopping). moves s)
    (made_is ∙ same_stopping a image place points paused other heard more sees passes p h) m
