-- Rule: what is seen of the machine without buffers: seen_of, changes_at
-- What is seen of the machine without store buffers.
use Rattle.std.specs.Prelude.{ℕ, zero, suc, ◌==◌, Bool, true, false, not, length}
use Rattle.std.specs.Prelude.{if◌then◌else◌}
use Rattle.access_times.specs.Riding.{none_carrying, none_riding}
use Rattle.image_mem.specs.Contents.{Contents}
use Rattle.rtr_types.specs.CoreSets.{no_cores, with_core}
use Rattle.rtr_types.specs.declared.TheConstants.{CORES_MAX}
use Rattle.rtr_types.specs.declared.access.Access.{Access}
use Rattle.rtr_types.specs.declared.core_set.CoreSet.{CoreSet}
use Rattle.rtr_types.specs.declared.params.Params.{Params}
use Rattle.rv_core.specs.Steps.{need}
use Rattle.rv_core.specs.declared.core_state.Need.{Need}
use Rattle.rv_core.specs.declared.core_state.Need.TheVariants.{Local}
use Rattle.schedule_pick.specs.Choices.{Choices, choice_at}
use Rattle.msi_state.specs.declared.moves.Move.TheVariants.{Core as CoreMove}
use Rattle.msi_state.specs.Events.{Event, Accesses}
use Rattle.msi_state.specs.Runs.{event_at, plain_moves, run}
use Rattle.msi_state.specs.States.{PlainState, all_done, core_at}
use Rattle.msi_state.specs.Steps.{enabled}
use Rattle.hunt_runs.specs.Seen.{Seen}

-- of the first n cores those that pass the test
abbrev pub cores_that : (ℕ → Bool) → (n : ℕ) → CoreSet
cores_that test zero = no_cores
cores_that test (suc n) = if test n then with_core (cores_that test n) n else cores_that test n

-- the next instruction makes no access
abbrev pub is_local : Need → Bool
is_local Local = true
is_local _ = false

-- the access writes another value to its word
abbrev pub writes_anew : Access → Bool
writes_anew a = not (a.before == a.after)

-- what is seen of the machine in a state
abbrev pub seen_of : PlainState → Seen
seen_of s = record {
  cores = s.cores;
  actors = record {
    cores = cores_that (λ c. enabled none_riding none_carrying s (CoreMove c)) CORES_MAX;
    buffers = no_cores;
  };
  steps = length (plain_moves s);
  load_first = λ c. false;
  unseen = λ c. is_local (need s.image (core_at s.cores c));
  stores = λ c. 0;
  ended = all_done s;
}

-- what is seen t choices into the run
abbrev pub seen_at : Contents → Params → Choices → (t : ℕ) → Seen
seen_at image params schedule t = seen_of (run image params (choice_at schedule) t)

-- whether a word changes in a step that tells of this
abbrev pub changes_in : Event → Bool
changes_in (Accesses a) = writes_anew a
changes_in _ = false

-- whether it changes by the choice numbered t
abbrev pub changes_at : Contents → Params → Choices → (t : ℕ) → Bool
changes_at image params schedule t = changes_in (event_at image params (choice_at schedule) t)
