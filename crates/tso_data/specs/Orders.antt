-- What the ordered accesses of a machine with store buffers make of memory.
use Rattle.std.specs.Prelude.{◌≡◌, ℕ, Bool, true, false, List}
use Rattle.access_times.specs.Riding.{Riding, Carrying}
use Rattle.rtr_types.specs.declared.instr.Instr.{Instr}
use Rattle.rtr_types.specs.declared.access.Kind.TheVariants.{Load}
use Rattle.msi_state.specs.Events.{Event as ClerkEvent, Nothing as NothingTold, Accesses}
use Rattle.msi_laws.specs.Words.{HaveWords}
use Rattle.tso_state.specs.Events.{Event, Performs, Drains, Logs}
use Rattle.tso_state.specs.States.{State}

-- the access that an event orders, as an event that makes it
abbrev pub ordering_of : Event → ClerkEvent
ordering_of (Performs a) = Accesses a
ordering_of (Drains a) = Accesses a
ordering_of _ = NothingTold

module _ {R K : Type 0} where
  -- the copies of each block that count have the memory's words; the memory gives each block's words
  abbrev pub Coherent : Riding R → Carrying K → State R K → (ℕ → List ℕ) → Type 0
  Coherent riding carrying s memory = HaveWords riding carrying s.memory memory

-- as it leaves the queue, a pending load is ordered where its word is still there, with the value that it got as the
-- word before and after, and is logged with that value elsewhere
abbrev pub LoadLeaves : (core count word value : ℕ) → Bool → Event → Type 0
LoadLeaves core count word value true e =
    let at : Instr = record { core = core; count = count } in
    e ≡ Drains (record { at = at; word = word; kind = Load; before = value; after = value })
LoadLeaves core count word value false e = e ≡ Logs (record { core = core; count = count }) word value
