-- How many steps a run may take. Each instruction pays for 2 P + 5 steps as it executes, P the number of cores. Of
-- these what its pending access may still take is owed, and so is what a message still brings to another core's access.
-- What the lines of the caches may have cost so far is earned: a line that holds a block is worth nothing, a Put that
-- empties it takes 3 steps, and a Get that fills it again at most 2 P + 1.
use Rattle.std.specs.Prelude.{ℕ, ◌+◌, ◌*◌, ◌-◌, ◌≤◌, Bool, true, false, List, length, if◌then◌else◌}
use Rattle.std.specs.List.{sum_by}
use Rattle.link_order.specs.Queue.{is_nil}
use Rattle.rtr_types.specs.declared.TheConstants.{LINES}
use Rattle.msi_cache.specs.declared.line.State.{State as LineState}
use Rattle.msi_cache.specs.declared.line.State.TheVariants.{I, S, M, IsD, ImD, SmD, MiA, SiA, IiA}
use Rattle.msi_cache.specs.declared.line.Line.{Line}
use Rattle.msi_memory.specs.declared.port.Port.{Port}
use Rattle.msi_memory.specs.Memories.{Memory}
use Rattle.machine_bound.specs.Bound.{owed}
use Rattle.tso_state.specs.declared.pending.Pending.{Pending}
use Rattle.tso_state.specs.Pending.{is_store}
use Rattle.tso_state.specs.States.{State, BufferedCore}

-- the steps that a line may have cost since it held a block last: by its state, and whether the home has taken its
-- request
abbrev pub line_worth : LineState → (taken : Bool) → (cores : ℕ) → ℕ
line_worth I taken cores = 3
line_worth S taken cores = 0
line_worth M taken cores = 0
line_worth IsD true cores = 2 * cores + 3
line_worth IsD false cores = 4
line_worth ImD true cores = 2 * cores + 3
line_worth ImD false cores = 4
line_worth SmD true cores = 2 * cores + 3
line_worth SmD false cores = 4
line_worth MiA taken cores = if taken then 2 else 1
line_worth SiA taken cores = if taken then 2 else 1
line_worth IiA taken cores = if taken then 2 else 1

-- of all lines of a cache
abbrev pub lines_worth : {R : Type 0} → (taken : Bool) → (cores : ℕ) → List (Line R) → ℕ
lines_worth taken cores lines = sum_by (λ l. line_worth l.state taken cores) lines

-- what all lines of an empty cache are worth
abbrev pub empty_worth : ℕ
empty_worth = 3 * LINES

-- what a pending access may still take: the ordering of a load, and for a store two rounds as well, which empty and
-- fill its line
abbrev pub pending_cost : (cores : ℕ) → Pending → ℕ
pending_cost cores p = if is_store p then 2 * cores + 4 else 1

-- what all pending accesses of a core may still take
abbrev pub queue_cost : (cores : ℕ) → List Pending → ℕ
queue_cost cores queue = sum_by (pending_cost cores) queue

abbrev pub core_cost : (cores : ℕ) → BufferedCore → ℕ
core_cost cores t = queue_cost cores t.queue

-- what a core's instructions have paid for, and can pay for beside its empty cache
abbrev pub paid : (cores : ℕ) → BufferedCore → ℕ
paid cores t = (2 * cores + 5) * t.core.count

abbrev pub capacity : (cores : ℕ) → BufferedCore → ℕ
capacity cores t = (2 * cores + 5) * t.core.limit + empty_worth

module _ {R K : Type 0} where
  -- of the lines of a port, whose request the home has taken where its link is empty
  abbrev pub port_worth : (cores : ℕ) → Port R K → ℕ
  port_worth cores p = lines_worth (is_nil p.requests.items) cores p.cache

  -- of all ports
  abbrev pub memory_worth : (cores : ℕ) → Memory R K → ℕ
  memory_worth cores m = sum_by (port_worth cores) m.ports

  -- what messages under way still bring to other cores' accesses
  abbrev pub memory_owed : Memory R K → ℕ
  memory_owed m = sum_by owed m.ports

  -- what is owed in a state, by pending accesses and by messages
  abbrev pub total_owed : State R K → ℕ
  total_owed s = sum_by (core_cost (length s.cores)) s.cores + memory_owed s.memory

  -- what is earned in it, by instructions that executed and by what lines have cost
  abbrev pub total_earned : State R K → ℕ
  total_earned s = sum_by (paid (length s.cores)) s.cores + memory_worth (length s.cores) s.memory

  -- at most so many steps are to come
  abbrev pub left : State R K → ℕ
  left s = sum_by (capacity (length s.cores)) s.cores + total_owed s - total_earned s

  -- a step from s to t is paid for
  abbrev pub Earns : State R K → State R K → Type 0
  Earns s t = total_earned s + total_owed t + 1 ≤ total_earned t + total_owed s
