-- What each choice of a run does to the cores.
use Rattle.std.proofs.Common.{◌≡◌, refl, subst, ℕ, suc, ◌<◌, ◌≤◌, ◌^◌, true, List, Option, Some, None}
use Rattle.access_times.specs.Riding.{none_riding, none_carrying}
use Rattle.image_mem.specs.Contents.{Contents}
use Rattle.rtr_types.specs.declared.TheConstants.{CORES_MAX}
use Rattle.rtr_types.specs.declared.params.Params.{Params}
use Rattle.rv_core.specs.declared.core_state.Core.{Core}
use Rattle.machine_invariant.specs.Holds.{MachineHolds}
use Rattle.machine_invariant.proofs.StartInvariant.{chosen_enabled, holds_run}
use Rattle.msi_state.specs.declared.moves.Move.{Move}
use Rattle.msi_state.specs.Runs.{chosen, event_at, event_by, run, stepped_by}
use Rattle.msi_state.specs.States.{PlainState}
use Rattle.msi_state.specs.Steps.{enabled}
use Rattle.run_outcome.proofs.OutcomeFits.{run_image}
use Rattle.run_outcome.proofs.CoreMoves.{CoresAfter, cores_moved}

-- the cores after t choices
abbrev pub cores_at : Contents → Params → (ℕ → ℕ) → ℕ → List Core
cores_at image params choices t = (run image params choices t).cores

stepped_cores : (image : Contents) (s : PlainState) (taken : Option Move) → s.image ≡ image
    → ((m : Move) → taken ≡ Some m → enabled none_riding none_carrying s m ≡ true) →
    MachineHolds none_riding none_carrying s
    → CoresAfter image s.cores (event_by s taken) (stepped_by s taken).cores
stepped_cores image s None same can h = refl
stepped_cores image s (Some m) same can h =
    subst (λ (i : Contents). CoresAfter i s.cores (event_by s (Some m)) (stepped_by s (Some m)).cores)
    same (cores_moved none_riding none_carrying s m tt (can m refl) h)

pub event_cores : (image : Contents) (params : Params) (choices : ℕ → ℕ) (t : ℕ) → params.cores ≤ CORES_MAX
    → params.limit < 2 ^ 32
    → CoresAfter image (cores_at image params choices t) (event_at image params choices t)
    (cores_at image params choices (suc t))
event_cores image params choices t few small =
    let s : PlainState = run image params choices t in
    stepped_cores image s (chosen s (choices t)) (run_image image params choices t)
    (λ m is. chosen_enabled s (choices t) m is) (holds_run image params choices t few small)
