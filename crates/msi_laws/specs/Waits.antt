-- Rule: what a port waits for: serves, WaitsFor
-- What a port waits for. A waiting line says it by its own state: the data of its block, to read or to write them, or
-- the end of a Put that makes place. Who uses the memory system keeps beside it which of its accesses that is for.
use Rattle.std.specs.Prelude.{◌≡◌, ℕ, ◌/◌, ◌%◌, ◌==◌, Bool, true, false, not, ◌&&◌, ◌<◌, Option, Some, None, length}
use Rattle.std.specs.Prelude.{IsTrue}
use Rattle.access_times.specs.Riding.{Riding, Carrying}
use Rattle.rtr_types.specs.Accesses.{is_write}
use Rattle.rtr_types.specs.declared.TheConstants.{BLOCK_WORDS}
use Rattle.rtr_types.specs.declared.access.Kind.{Kind}
use Rattle.rtr_types.specs.declared.TheConstants.{LINES}
use Rattle.msi_cache.specs.declared.line.State.{State as LineState}
use Rattle.msi_cache.specs.declared.line.State.TheVariants.{IsD, ImD, SmD, MiA, SiA, IiA}
use Rattle.msi_cache.specs.Lines.{waits}
use Rattle.msi_memory.specs.declared.port.Port.{Port}
use Rattle.msi_memory.specs.Acts.{Act, Want, TakeMessage, can, after_act, allows, data_next}
use Rattle.msi_memory.specs.Memories.{Memory, port_at}
use Rattle.msi_laws.specs.Holds.{MemoryHolds, place_at}

-- a line at place i, which is for the block l, waits for what an access to block b needs that writes or not: for that
-- block's data, or for the end of a Put that makes place for the block; a line that doesn't wait does so for any
abbrev pub serves : LineState → (writes : Bool) → (l i b : ℕ) → Bool
serves IsD writes l i b = not writes && (l == b)
serves ImD writes l i b = writes && (l == b)
serves SmD writes l i b = writes && (l == b)
serves MiA writes l i b = i == b % LINES
serves SiA writes l i b = i == b % LINES
serves IiA writes l i b = i == b % LINES
serves _ writes l i b = true

-- whatever waits at the port does so for an access of this kind to the block
abbrev pub WaitsFor : {R K : Type 0} → Riding R → Port R K → (block : ℕ) → Kind → Type 0
WaitsFor riding p block kind =
    (i : ℕ) → serves (place_at riding p i).state (is_write kind) (place_at riding p i).block i block ≡ true

-- whatever waits at the port does so for this access, as a kind and a word; where it is none, nothing waits there
abbrev pub Awaited : {R K : Type 0} → Option (Kind × ℕ) → Riding R → Port R K → Type 0
Awaited None riding p = waits p.cache ≡ false
Awaited (Some (kind, word)) riding p = WaitsFor riding p (word / BLOCK_WORDS) kind

-- the act is that core d asks
abbrev pub is_want : {R : Type 0} → Act R → (d : ℕ) → Bool
is_want (Want c block kind) d = d == c
is_want _ d = false

module _ {R K : Type 0} where
  -- asking, a port waits for the access that it was asked for
  abbrev pub WantsLaw : Riding R → Carrying K → Type 0
  WantsLaw riding carrying =
      (m : Memory R K) (c block : ℕ) (kind : Kind)
      → MemoryHolds riding carrying m → IsTrue (can riding carrying m (Want c block kind))
      → WaitsFor riding (port_at carrying (after_act riding carrying m (Want c block kind)).ports c) block kind

  -- and from then on, whatever acts are made, until it waits no more
  abbrev pub WaitsLaw : Riding R → Carrying K → Type 0
  WaitsLaw riding carrying =
      (m : Memory R K) (act : Act R) (d block : ℕ) (kind : Kind)
      → MemoryHolds riding carrying m → IsTrue (can riding carrying m act) → is_want act d ≡ false
      → d < length m.ports → WaitsFor riding (port_at carrying m.ports d) block kind
      → WaitsFor riding (port_at carrying (after_act riding carrying m act).ports d) block kind

  -- a port that doesn't wait begins to by asking alone
  abbrev pub StillLaw : Riding R → Carrying K → Type 0
  StillLaw riding carrying =
      (m : Memory R K) (act : Act R) (d : ℕ)
      → MemoryHolds riding carrying m → IsTrue (can riding carrying m act) → is_want act d ≡ false
      → d < length m.ports → waits (port_at carrying m.ports d).cache ≡ false
      → waits (port_at carrying (after_act riding carrying m act).ports d).cache ≡ false

  -- the block's data come for the access that the port waits for, which the cache then allows, and no line waits
  abbrev pub GrantsLaw : Riding R → Carrying K → Type 0
  GrantsLaw riding carrying =
      (m : Memory R K) (c block : ℕ) (kind : Kind)
      → MemoryHolds riding carrying m → c < length m.ports
      → data_next (port_at carrying m.ports c).messages.items ≡ true
      → WaitsFor riding (port_at carrying m.ports c) block kind
      → let left = port_at carrying (after_act riding carrying m (TakeMessage c)).ports c in
      (allows riding left block kind ≡ true) × (waits left.cache ≡ false)

-- what holds of a port's waiting
pub record WaitingLaws {R K : Type 0} (riding : Riding R) (carrying : Carrying K) : Type 0 where
  pub asked : WantsLaw riding carrying
  pub waits : WaitsLaw riding carrying
  pub granted : GrantsLaw riding carrying
  pub still : StillLaw riding carrying
