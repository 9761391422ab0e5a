-- What the acts of a memory system rest on is there.
use Rattle.std.specs.Prelude.{◌≤◌, length, IsTrue, All}
use Rattle.access_times.specs.Riding.{Riding, Carrying}
use Rattle.msi_memory.specs.declared.port.Port.{Port}
use Rattle.msi_memory.specs.Acts.{Act, can}
use Rattle.msi_memory.specs.Memories.{Memory}
use Rattle.msi_memory.specs.Rests.{HasRoomFor, HeadsFit, NamesFit, has_row_for}
use Rattle.msi_laws.specs.Holds.{MemoryHolds}

-- the home names cores that there are, each request's block is one of the home's, the message that an act takes has a
-- row in its receiver's table, and no link that an act pushes to is full
pub record IsReady {R K : Type 0} (riding : Riding R) (carrying : Carrying K) (m : Memory R K) : Type 0 where
  pub names : NamesFit m
  pub heads : HeadsFit m
  pub rows : (act : Act R) → IsTrue (can riding carrying m act) → IsTrue (has_row_for riding carrying m act)
  pub rooms : (act : Act R) → IsTrue (can riding carrying m act) → HasRoomFor riding carrying m act

-- each of the port's links has room for what is on it
pub record PortLinksHold {R K : Type 0} (p : Port R K) : Type 0 where
  pub requests : length p.requests.items ≤ p.requests.room
  pub responses : length p.responses.items ≤ p.responses.room
  pub messages : length p.messages.items ≤ p.messages.room

module _ {R K : Type 0} where
  -- each port's links do
  abbrev pub LinksHold : Memory R K → Type 0
  LinksHold m = All (λ p. PortLinksHold p) m.ports

  abbrev pub ReadyLaw : Riding R → Carrying K → Type 0
  ReadyLaw riding carrying = (m : Memory R K) → MemoryHolds riding carrying m → IsReady riding carrying m

  abbrev pub LinksHoldLaw : Riding R → Carrying K → Type 0
  LinksHoldLaw riding carrying = (m : Memory R K) → MemoryHolds riding carrying m → LinksHold m
