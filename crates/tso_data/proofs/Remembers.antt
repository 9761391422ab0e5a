-- A run's states are coherent with the memory of its ordered accesses.
use Rattle.std.proofs.Common.{◌≡◌, ap, refl, ℕ, ◌<◌, ◌≤◌, ◌^◌, ◌++◌, true, List, Option, Some, None}
use Rattle.access_times.specs.Riding.{none_riding, none_carrying}
use Rattle.image_mem.specs.Contents.{Contents}
use Rattle.rtr_types.specs.declared.TheConstants.{CORES_MAX}
use Rattle.rtr_types.specs.declared.access.Access.{Access}
use Rattle.rtr_types.specs.declared.params.Params.{Params}
use Rattle.msi_state.specs.Choosing.{by_move}
use Rattle.msi_state.specs.Events.{Nothing as NothingTold}
use Rattle.msi_state.specs.Runs.{accesses_in}
use Rattle.machine_data.specs.LastValues.{memory_left, EachFindsLast}
use Rattle.machine_data.proofs.Recalls.{RunsRecall, runs_recall}
use Rattle.tso_state.specs.declared.moves.Move.{Move}
use Rattle.tso_state.specs.Events.{Event, Nothing, Executes, Buffers, Performs, Drains, Logs}
use Rattle.tso_state.specs.FinalMemory.{final_memory}
use Rattle.tso_state.specs.Runs.{run, plain_moves, plain_step, plain_event, chosen, event_by, accesses, ordered_in}
use Rattle.tso_state.specs.States.{PlainState, all_done, buffered_start}
use Rattle.tso_invariant.specs.Holds.{TsoHolds}
use Rattle.tso_invariant.proofs.StartInvariant.{chosen_enabled, holds_run}
use Rattle.tso_invariant.proofs.DoneMachine.{links_left}
use Rattle.tso_data.specs.Orders.{ordering_of}
use Rattle.tso_data.proofs.WordSteps.{step_works}

-- the same access, said twice
ordered_same : (e : Event) → ordered_in e ≡ accesses_in (ordering_of e)
ordered_same Nothing = refl
ordered_same (Executes at) = refl
ordered_same (Buffers at x) = refl
ordered_same (Performs a) = refl
ordered_same (Drains a) = refl
ordered_same (Logs at word value) = refl

moved_same : (s : PlainState) (taken : Option Move) →
    ordered_in (event_by s taken) ≡ accesses_in (by_move NothingTold (λ m. ordering_of (plain_event s m)) taken)
moved_same s None = refl
moved_same s (Some m) = ordered_same (plain_event s m)

pub recalled : RunsRecall run all_done accesses
recalled =
    runs_recall (TsoHolds none_riding none_carrying) plain_moves plain_step (λ s m. ordering_of (plain_event s m))
    (λ s m. refl)
    (λ s choice m memory is h k. step_works none_riding none_carrying s m tt memory (chosen_enabled s choice m is) h k)
    buffered_start all_done accesses holds_run
    (λ s h done. (h.memory, links_left none_riding none_carrying s h done)) (λ image params choices. refl)
    (λ image params choices t. ap (λ (l : List Access). accesses image params choices t ++ l)
    (moved_same (run image params choices t) (chosen (run image params choices t) (choices t))))

pub final_values : (image : Contents) (params : Params) (choices : ℕ → ℕ) (t : ℕ) → params.cores ≤ CORES_MAX →
    params.limit < 2 ^ 32 →
    all_done (run image params choices t) ≡ true → final_memory none_riding none_carrying (run image params choices t)
    ≡ memory_left image (accesses image params choices t)
final_values = recalled.leave.memory

pub each_finds_last : (image : Contents) (params : Params) (choices : ℕ → ℕ) (t : ℕ) → params.cores ≤ CORES_MAX →
    params.limit < 2 ^ 32 →
    EachFindsLast image (accesses image params choices t)
each_finds_last = recalled.find.finds
