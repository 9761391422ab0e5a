-- The start keeps what each state of a run keeps, and so each state of a run does.
use Rattle.std.proofs.Common.{◌≡◌, ◌∙◌, refl, sym, subst, ℕ, ◌*◌, ◌<◌, ◌≤◌, ◌^◌, true, length, get_or, Some, arith}
use Rattle.std.proofs.Common.{zero-add}
use Rattle.std.proofs.lemmas.List.{length-replicate, get_or-replicate}
use Rattle.std.proofs.lemmas.List.FromFn.{length-map-range_with_len, get_or-map-range_with_len}
use Rattle.access_times.specs.Riding.{Riding, Carrying, none_riding, none_carrying}
use Rattle.image_mem.specs.Contents.{Contents}
use Rattle.rtr_types.specs.declared.TheConstants.{CORES_MAX}
use Rattle.rv_core.specs.States.{starting}
use Rattle.rv_core.specs.Steps.{need, access_of as need_access}
use Rattle.rv_core.proofs.LawLemmas.{start_law}
use Rattle.msi_directory.specs.Blocks.{block_count}
use Rattle.msi_directory.proofs.Openings.{openings_counted}
use Rattle.msi_memory.specs.declared.port.Port.{Port}
use Rattle.msi_memory.specs.Memories.{port_at, port_start, no_port}
use Rattle.msi_state.specs.declared.moves.Move.{Move}
use Rattle.msi_state.specs.CoreStates.{CoresState, cores_start}
use Rattle.msi_state.specs.States.{PlainState, core_at, state_start}
use Rattle.msi_state.specs.Moves.{candidates}
use Rattle.msi_state.specs.Steps.{enabled}
use Rattle.msi_state.specs.Runs.{plain_moves, plain_step, opening_state, chosen, run}
use Rattle.msi_laws.proofs.StartInvariant.{memory_starts, port_start_at as ports_start_at}
use Rattle.msi_laws.proofs.Awaits.{still_awaits}
use Rattle.machine_invariant.specs.Holds.{CoreHolds, CoresHold, MachineHolds}
use Rattle.machine_invariant.specs.Promises.{EachRunHas, EachStartHas}
use Rattle.machine_invariant.proofs.ChoiceStates.{chosen_passes, each_run_has}
use Rattle.machine_invariant.proofs.MoveInvariant.{holds_kept}
pub use Rattle.machine_invariant.proofs.ChoiceStates.{chosen_at}

-- cores over a memory system keep at the start what each state of a run keeps, where each core is well at its port
module _ {C R K : Type 0} (riding : Riding R) (carrying : Carrying K) (no_core : C)
    (IsWell : Contents → (c : ℕ) → C → Port R K → Type 0) (starts : ℕ → C) where
  pub cores_hold_start : (image : Contents) (cores : ℕ) → cores ≤ CORES_MAX →
      ((c : ℕ) → IsWell image c (starts c) (port_start riding carrying)) →
      CoresHold riding carrying no_core IsWell (cores_start starts riding carrying image cores)
  cores_hold_start image cores few well =
      record {
        memory = memory_starts riding carrying image cores few;
        ports_there = length-replicate cores (port_start riding carrying) ∙ sym long;
        blocks_there = openings_counted riding.fresh image (block_count image.words);
        cores = λ c within. core_well c (subst (λ (n : ℕ). c < n) long within);
      }
    where
      start : CoresState C R K
      start = cores_start starts riding carrying image cores

      long : length start.cores ≡ cores
      long = length-map-range_with_len starts 0 cores

      core_well : (c : ℕ) → c < cores →
          IsWell image c (get_or start.cores c no_core) (port_at carrying start.memory.ports c)
      core_well c within =
          subst (λ (core : C). IsWell image c core (port_at carrying start.memory.ports c))
          (sym (get_or-map-range_with_len starts 0 cores c c no_core within (zero-add c)))
          (subst (λ (p : Port R K). IsWell image c (starts c) p)
          (sym (ports_start_at riding carrying cores c within)) (well c))

module _ {R K : Type 0} where
  -- the cores and the ports at the start
  pub core_start_at : (riding : Riding R) (carrying : Carrying K) (image : Contents) (cores limit c : ℕ) → c < cores →
      core_at (state_start riding carrying image cores limit).cores c ≡ starting c limit
  core_start_at riding carrying image cores limit c within =
      get_or-map-range_with_len (λ (id : ℕ). starting id limit) 0 cores c c (starting 0 0) within (zero-add c)

  pub port_start_at : (riding : Riding R) (carrying : Carrying K) (image : Contents) (cores limit c : ℕ) → c < cores →
      port_at carrying (state_start riding carrying image cores limit).memory.ports c ≡ port_start riding carrying
  port_start_at riding carrying image cores limit c within = get_or-replicate cores c (port_start riding carrying)
      (no_port carrying) within

  start_well : (image : Contents) (riding : Riding R) (carrying : Carrying K) (limit c : ℕ) → limit < 2 ^ 32 →
      CoreHolds image riding c (starting c limit) (port_start riding carrying)
  start_well image riding carrying limit c small =
      record {
        number = (start_law c limit).0;
        count_fits = rw (start_law c limit).2 (omega arith);
        limit_fits = rw (start_law c limit).1 small;
        awaited = still_awaits riding (port_start riding carrying) (need_access (need image (starting c limit))) refl;
      }

  pub holds_start : (riding : Riding R) (carrying : Carrying K) →
      EachStartHas (state_start riding carrying) (MachineHolds riding carrying)
  holds_start riding carrying image cores limit few small =
      cores_hold_start riding carrying (starting 0 0) (λ image c core p. CoreHolds image riding c core p)
      (λ id. starting id limit) image cores few (λ c. start_well image riding carrying limit c small)

-- what a choice takes is enabled
pub chosen_enabled : (s : PlainState) (choice : ℕ) (m : Move) → chosen s choice ≡ Some m →
    enabled none_riding none_carrying s m ≡ true
chosen_enabled s choice m is =
    chosen_passes (enabled none_riding none_carrying s) (candidates (length s.cores) (4 * length s.cores)) choice m is

pub holds_run : EachRunHas run (MachineHolds none_riding none_carrying)
holds_run =
    each_run_has opening_state plain_moves plain_step (MachineHolds none_riding none_carrying)
    (λ image params few small. holds_start none_riding none_carrying image params.cores params.limit few small)
    (λ s choice m is h. holds_kept none_riding none_carrying s m tt (chosen_enabled s choice m is) h)
