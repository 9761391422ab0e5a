-- A run's states are coherent with the memory of its accesses.
use Rattle.std.proofs.Common.{◌≡◌, refl, ℕ, ◌<◌, ◌≤◌, ◌^◌, true}
use Rattle.std.specs.Prelude.{All}
use Rattle.access_times.specs.Riding.{none_riding, none_carrying}
use Rattle.rtr_types.specs.declared.TheConstants.{CORES_MAX}
use Rattle.image_mem.specs.Contents.{Contents}
use Rattle.rtr_types.specs.declared.params.Params.{Params}
use Rattle.rv_core.specs.States.{starting}
use Rattle.msi_state.specs.FinalMemory.{final_memory}
use Rattle.msi_state.specs.Runs.{run, plain_moves, plain_step, plain_event, accesses}
use Rattle.msi_state.specs.States.{all_done}
use Rattle.machine_invariant.specs.Holds.{MachineHolds}
use Rattle.machine_invariant.proofs.StartInvariant.{chosen_enabled, holds_run}
use Rattle.machine_invariant.proofs.DoneCores.{links_left}
use Rattle.machine_data.specs.LastValues.{memory_left, EachFindsLast}
use Rattle.machine_data.proofs.Recalls.{RunsRecall, runs_recall}
use Rattle.machine_data.proofs.WordSteps.{step_works}

pub recalled : RunsRecall run all_done accesses
recalled =
    runs_recall (MachineHolds none_riding none_carrying) plain_moves plain_step plain_event (λ s m. refl)
    (λ s choice m memory is h k. step_works none_riding none_carrying s m tt memory (chosen_enabled s choice m is) h k)
    starting all_done accesses holds_run (λ s h done. (h.memory, links_left none_riding none_carrying s h done))
    (λ image params choices. refl) (λ image params choices t. refl)

pub each_finds_last : (image : Contents) (params : Params) (choices : ℕ → ℕ) (t : ℕ) → params.cores ≤ CORES_MAX →
    params.limit < 2 ^ 32 →
    EachFindsLast image (accesses image params choices t)
each_finds_last = recalled.find.finds

pub each_within : (image : Contents) (params : Params) (choices : ℕ → ℕ) (t : ℕ) → params.cores ≤ CORES_MAX →
    params.limit < 2 ^ 32 →
    All (λ a. a.word < image.words) (accesses image params choices t)
each_within = recalled.find.within

pub final_values : (image : Contents) (params : Params) (choices : ℕ → ℕ) (t : ℕ) → params.cores ≤ CORES_MAX →
    params.limit < 2 ^ 32 →
    all_done (run image params choices t) ≡ true → final_memory none_riding none_carrying (run image params choices t)
    ≡ memory_left image (accesses image params choices t)
final_values = recalled.leave.memory
