-- The loads of a run's outcome and of a play.
use Rattle.std.specs.Prelude.{◌≡◌, ℕ, List, length, map}
use Rattle.std.specs.List.{range_with_len}
use Rattle.image_mem.specs.Contents.{Contents}
use Rattle.rtr_types.specs.declared.access.Access.{Access}
use Rattle.rtr_types.specs.declared.params.Params.{Params}
use Rattle.rv_core.specs.declared.outcome.LoadNote.{LoadNote}
use Rattle.schedule_pick.specs.Choices.{Choices}
use Rattle.msi_state.specs.Runs.{loads_of}
use Rattle.run_outcome.specs.Outcomes.{outcome_of}
use Rattle.run_records.specs.Recordings.{run_accesses}
use Rattle.replay_core.specs.Plans.{Plan}
use Rattle.replay_core.specs.Play.{played}
use Rattle.replay_core.specs.Play as replays

-- the loads of so many cores among accesses, core 0 first
abbrev pub loads_by_core : (cores : ℕ) → List Access → List (List LoadNote)
loads_by_core cores list = map (λ c. loads_of c list) (range_with_len 0 cores)

abbrev pub OutcomeLoadsLaw : Type 0
OutcomeLoadsLaw =
    (image : Contents) (params : Params) (schedule : Choices)
    → (outcome_of image params schedule).loads ≡ loads_by_core params.cores (run_accesses image params schedule)

abbrev pub PlayLoadsLaw : Type 0
PlayLoadsLaw =
    (p : Plan) (order : List ℕ) → (played p order).loads ≡ loads_by_core (length p.totals) (replays.accesses_of p order)
