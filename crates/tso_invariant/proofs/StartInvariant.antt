-- The start keeps what each state of a run keeps, and so each state of a run does. At the start no queue holds
-- anything, nobody asks, and the memory system has its own start.
use Rattle.std.proofs.Common.{◌≡◌, refl, ℕ, ◌*◌, ◌<◌, ◌^◌, true, length, Some, arith}
use Rattle.access_times.specs.Riding.{Riding, Carrying, none_riding, none_carrying}
use Rattle.image_mem.specs.Contents.{Contents}
use Rattle.rtr_types.specs.declared.params.Params.{Params}
use Rattle.rv_core.proofs.LawLemmas.{start_law}
use Rattle.msi_memory.specs.Memories.{port_start}
use Rattle.machine_invariant.proofs.StartInvariant.{cores_hold_start}
use Rattle.machine_invariant.specs.Promises.{EachRunHas, EachStartHas}
use Rattle.machine_invariant.proofs.ChoiceStates.{chosen_passes, cores_stay, each_run_has}
use Rattle.tso_state.specs.declared.moves.Move.{Move}
use Rattle.tso_state.specs.Moves.{candidates}
use Rattle.tso_state.specs.States.{PlainState, buffered_start, state_start}
use Rattle.tso_state.specs.Steps.{enabled}
use Rattle.tso_state.specs.Runs.{plain_moves, plain_step, opening_state, chosen, run}
use Rattle.tso_invariant.specs.Holds.{BufferedHolds, TsoHolds}
use Rattle.tso_invariant.proofs.MoveInvariant.{holds_kept, step_cores}
pub use Rattle.machine_invariant.proofs.ChoiceStates.{chosen_at, each_after}

-- what a choice takes is enabled
pub chosen_enabled : (s : PlainState) (choice : ℕ) (m : Move) → chosen s choice ≡ Some m →
    enabled none_riding none_carrying s m ≡ true
chosen_enabled s choice m is =
    chosen_passes (enabled none_riding none_carrying s) (candidates (length s.cores) (5 * length s.cores)) choice m is

module _ {R K : Type 0} where
  start_well : (image : Contents) (riding : Riding R) (carrying : Carrying K) (limit c : ℕ) → limit < 2 ^ 32 →
      BufferedHolds image riding c (buffered_start c limit) (port_start riding carrying)
  start_well image riding carrying limit c small =
      record {
        fits = record {
          number = (start_law c limit).0;
          count_fits = rw (start_law c limit).2 (omega arith);
          limit_fits = rw (start_law c limit).1 small;
          queue = record { few = omega arith; few_stores = omega arith; within = refl; ordered = grind (arith) };
          asks = refl;
        };
        awaited = refl;
        waiting = refl;
      }

  pub holds_start : (riding : Riding R) (carrying : Carrying K) →
      EachStartHas (state_start riding carrying) (TsoHolds riding carrying)
  holds_start riding carrying image cores limit few small =
      cores_hold_start riding carrying (buffered_start 0 0) (λ image c t p. BufferedHolds image riding c t p)
      (λ id. buffered_start id limit) image cores few (λ c. start_well image riding carrying limit c small)

pub holds_run : EachRunHas run (TsoHolds none_riding none_carrying)
holds_run =
    each_run_has opening_state plain_moves plain_step (TsoHolds none_riding none_carrying)
    (λ image params few small. holds_start none_riding none_carrying image params.cores params.limit few small)
    (λ s choice m is h. holds_kept none_riding none_carrying s m tt (chosen_enabled s choice m is) h)

-- no core comes or goes
pub run_cores : (image : Contents) (params : Params) (choices : ℕ → ℕ) (t : ℕ) →
    length (run image params choices t).cores ≡ params.cores
run_cores image params =
    cores_stay plain_moves plain_step (λ s m. step_cores none_riding none_carrying tt s m)
    (λ id. buffered_start id params.limit) image params.cores
