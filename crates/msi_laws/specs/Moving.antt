-- The memory system is never stuck: while a port waits something can be taken, and where none waits nothing is left to
-- take.
use Rattle.std.specs.Prelude.{◌≡◌, ℕ, ◌<◌, Bool, true, false, ◌&&◌, length}
use Rattle.std.specs.List.{list_all}
use Rattle.access_times.specs.Riding.{Riding, Carrying}
use Rattle.link_order.specs.Queue.{is_nil}
use Rattle.msi_cache.specs.Lines.{waits}
use Rattle.msi_memory.specs.declared.port.Port.{Port}
use Rattle.msi_memory.specs.Acts.{Act, TakeRequest, TakeResponse, TakeMessage, can}
use Rattle.msi_memory.specs.Memories.{Memory, port_at}
use Rattle.msi_laws.specs.Holds.{MemoryHolds}

-- the act takes a message
abbrev pub is_take : {R : Type 0} → Act R → Bool
is_take (TakeRequest c) = true
is_take (TakeResponse c) = true
is_take (TakeMessage c) = true
is_take _ = false

module _ {R K : Type 0} where
  -- nothing is on the port's links
  abbrev pub are_links_empty : Port R K → Bool
  are_links_empty p = is_nil p.requests.items && (is_nil p.responses.items && is_nil p.messages.items)

  -- nothing is under way
  abbrev pub links_empty : Memory R K → Bool
  links_empty m = list_all are_links_empty m.ports

  -- some message can be taken
  abbrev pub CanTake : Riding R → Carrying K → Memory R K → Type 0
  CanTake riding carrying m = (act : Act R) × (is_take act ≡ true) × (can riding carrying m act ≡ true)

  abbrev pub MovingLaw : Riding R → Carrying K → Type 0
  MovingLaw riding carrying =
      (m : Memory R K) (c : ℕ) → MemoryHolds riding carrying m → c < length m.ports
      → waits (port_at carrying m.ports c).cache ≡ true → CanTake riding carrying m

  abbrev pub QuietLaw : Riding R → Carrying K → Type 0
  QuietLaw riding carrying =
      (m : Memory R K) → MemoryHolds riding carrying m
      → ((c : ℕ) → c < length m.ports → waits (port_at carrying m.ports c).cache ≡ false)
      → links_empty m ≡ true
