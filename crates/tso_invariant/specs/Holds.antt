-- The invariant of the machine with store buffers: what each state of a run keeps.
use Rattle.std.specs.Prelude.{◌≡◌, ℕ, ◌<◌, ◌≤◌, ◌^◌, nat_le, nat_lt, Bool, true, false, ◌&&◌, Option, None, is_some}
use Rattle.std.specs.Prelude.{List, [], ◌∷◌, length}
use Rattle.std.specs.List.{list_all}
use Rattle.access_times.specs.Riding.{Riding, Carrying}
use Rattle.image_mem.specs.Contents.{Contents}
use Rattle.link_order.specs.Queue.{is_nil}
use Rattle.rtr_types.specs.declared.access.Kind.{Kind}
use Rattle.rv_core.specs.declared.core_state.Need.{Need}
use Rattle.rv_core.specs.declared.core_state.Need.TheVariants.{Local, Load, Store, Amo, Done}
use Rattle.rv_core.specs.Steps.{need, access_of as need_access}
use Rattle.msi_cache.specs.Lines.{waits}
use Rattle.msi_memory.specs.declared.port.Port.{Port}
use Rattle.msi_laws.specs.Waits.{Awaited}
use Rattle.machine_invariant.specs.Holds.{CoresHold}
use Rattle.tso_state.specs.declared.pending.Pending.{Pending}
use Rattle.tso_state.specs.declared.pending.Asker.{Asker}
use Rattle.tso_state.specs.declared.pending.Asker.TheVariants.{Nobody, Next, Head}
use Rattle.tso_state.specs.declared.pending.TheConstants.{PENDING_MAX, STORES_MAX}
use Rattle.tso_state.specs.Pending.{count_of, word_of, stores_in}
use Rattle.tso_state.specs.States.{State, BufferedCore, buffered_start}
use Rattle.tso_state.specs.Steps.{head_access, has_room}

-- ---- who asks

-- the port waits for somebody's access
abbrev pub is_asking : Asker → Bool
is_asking Nobody = false
is_asking Next = true
is_asking Head = true

-- a load asks where it may then join the queue, and an atomic memory operation with an empty queue
abbrev pub next_may_ask : Need → List Pending → Bool
next_may_ask Local queue = false
next_may_ask (Load word) queue = has_room queue
next_may_ask (Store word whole) queue = false
next_may_ask (Amo word) queue = is_nil queue
next_may_ask (Done stop) queue = false

-- who asks has an access to ask for
abbrev pub may_ask : Asker → Need → List Pending → Bool
may_ask Nobody needed queue = true
may_ask Next needed queue = next_may_ask needed queue
may_ask Head needed queue = is_some (head_access queue)

-- the access for which the port waits
abbrev pub wish_by : Asker → Need → List Pending → Option (Kind × ℕ)
wish_by Nobody needed queue = None
wish_by Next needed queue = need_access needed
wish_by Head needed queue = head_access queue

-- ---- the queue

-- the counts of the pending accesses rise from above this one, and none is above the core's own
abbrev pub in_order : (last : ℕ) → List Pending → (count : ℕ) → Bool
in_order last [] count = nat_le last count
in_order last (p ∷ rest) count = nat_lt last (count_of p) && in_order (count_of p) rest count

-- the pending accesses of a core with this count, over a memory of so many words
pub record QueueHolds (words count : ℕ) (queue : List Pending) : Type 0 where
  pub few : length queue ≤ PENDING_MAX
  pub few_stores : stores_in queue ≤ STORES_MAX
  pub within : list_all (λ p. nat_lt (word_of p) words) queue ≡ true
  pub ordered : in_order 0 queue count ≡ true

-- ---- the core and its port

-- core c, apart from what its port holds
pub record BufferedFits (image : Contents) (c : ℕ) (t : BufferedCore) : Type 0 where
  -- its number is its place
  pub number : t.core.id ≡ c
  pub count_fits : t.core.count ≤ t.core.limit
  pub limit_fits : t.core.limit < 2 ^ 32
  pub queue : QueueHolds image.words t.core.count t.queue
  pub asks : may_ask t.asker (need image t.core) t.queue ≡ true

-- core c is well at its port: whatever waits there does so for the access of who asked, and while somebody asks
-- something waits
pub record BufferedHolds {R K : Type 0} (image : Contents) (riding : Riding R) (c : ℕ) (t : BufferedCore)
    (p : Port R K) : Type 0 where
  pub fits : BufferedFits image c t
  pub awaited : Awaited (wish_by t.asker (need image t.core) t.queue) riding p
  pub waiting : waits p.cache ≡ is_asking t.asker

-- what each state of a run keeps
module _ {R K : Type 0} where
  abbrev pub TsoHolds : Riding R → Carrying K → State R K → Type 0
  TsoHolds riding carrying s =
      CoresHold riding carrying (buffered_start 0 0) (λ image c t p. BufferedHolds image riding c t p) s
