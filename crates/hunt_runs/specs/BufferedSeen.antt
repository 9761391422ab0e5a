-- Rule: what is seen of the machine with buffers: seen_of, changes_at
-- What is seen of the machine with store buffers.
use Rattle.std.specs.Prelude.{ℕ, Bool, true, false, ◌||◌, Option, Some, List, [], ◌∷◌, length, map}
use Rattle.access_times.specs.Riding.{none_carrying, none_riding}
use Rattle.image_mem.specs.Contents.{Contents}
use Rattle.rtr_types.specs.declared.TheConstants.{CORES_MAX}
use Rattle.rtr_types.specs.declared.params.Params.{Params}
use Rattle.rv_core.specs.Steps.{need}
use Rattle.rv_core.specs.declared.core_state.Need.{Need}
use Rattle.rv_core.specs.declared.core_state.Need.TheVariants.{Local, Store}
use Rattle.schedule_pick.specs.Choices.{Choices, choice_at}
use Rattle.tso_state.specs.declared.moves.Move.TheVariants.{Core as CoreMove, Order as OrderMove}
use Rattle.tso_state.specs.declared.pending.Pending.{Pending}
use Rattle.tso_state.specs.declared.pending.Pending.TheVariants.{Load as PendingLoad}
use Rattle.tso_state.specs.Events.{Told, Alone, Ordered, Logged}
use Rattle.tso_state.specs.Pending.{stores_in}
use Rattle.tso_state.specs.Runs.{plain_moves, run, told_at}
use Rattle.tso_state.specs.States.{PlainState, all_done, core_at}
use Rattle.tso_state.specs.Steps.{enabled}
use Rattle.tso_core.specs.Queues.{oldest}
use Rattle.hunt_runs.specs.PlainSeen.{cores_that, writes_anew}
use Rattle.hunt_runs.specs.Seen.{Seen}

-- the next instruction makes no access, or is a store, which goes to the buffer
abbrev pub is_buffered : Need → Bool
is_buffered Local = true
is_buffered (Store word whole) = true
is_buffered _ = false

-- the oldest pending access is a load
abbrev pub is_load : Option Pending → Bool
is_load (Some (PendingLoad count word value)) = true
is_load _ = false

-- what is seen of the machine in a state
abbrev pub seen_of : PlainState → Seen
seen_of s = record {
  cores = map (λ t. t.core) s.cores;
  actors = record {
    cores = cores_that (λ c. enabled none_riding none_carrying s (CoreMove c)) CORES_MAX;
    buffers = cores_that (λ c. enabled none_riding none_carrying s (OrderMove c)) CORES_MAX;
  };
  steps = length (plain_moves s);
  load_first = λ c. is_load (oldest (core_at s.cores c).queue);
  unseen = λ c. is_buffered (need s.image (core_at s.cores c).core);
  stores = λ c. stores_in (core_at s.cores c).queue;
  ended = all_done s;
}

-- what is seen t choices into the run
abbrev pub seen_at : Contents → Params → Choices → (t : ℕ) → Seen
seen_at image params schedule t = seen_of (run image params (choice_at schedule) t)

-- whether a word changes in a step that tells of these: an access that is ordered writes another value
abbrev pub changes_in : List Told → Bool
changes_in [] = false
changes_in (Alone at ∷ later) = changes_in later
changes_in (Ordered a ∷ later) = writes_anew a || changes_in later
changes_in (Logged at word value ∷ later) = changes_in later

-- whether it changes by the choice numbered t
abbrev pub changes_at : Contents → Params → Choices → (t : ℕ) → Bool
changes_at image params schedule t = changes_in (told_at image params (choice_at schedule) t)
