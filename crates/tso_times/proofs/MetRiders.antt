-- Riders that meet in a move have the same last writes: what meets is the memory system's own.
use Rattle.access_times.specs.Riding.{Carrying}
use Rattle.msi_memory.specs.Acts.{TakeMessage, TakeRequest, TakeResponse}
use Rattle.msi_laws.proofs.PortsKept.{there_of}
use Rattle.msi_laws.proofs.PortsAndBlocks.{core_below}
use Rattle.machine_times.specs.StandsFor.{TimesParts}
use Rattle.machine_times.proofs.MetRiders.{messages_alike, requests_alike, responses_alike}
use Rattle.tso_state.specs.declared.moves.Move.TheVariants.{Core as CoreMove, Order as OrderMove}
use Rattle.tso_state.specs.declared.moves.Move.TheVariants.{Request as RequestMove, Response as ResponseMove}
use Rattle.tso_state.specs.declared.moves.Move.TheVariants.{FromHome as MessageMove}
use Rattle.tso_times.specs.Absorbing.{MeetAlike}

module _ {R K : Type 0} where
  pub meet_alike : (parts : TimesParts R) (carrying : Carrying K) → MeetAlike parts carrying
  meet_alike parts carrying h s (CoreMove c) holds e f = λ x y met slot ls. absurd cc
  meet_alike parts carrying h s (OrderMove c) holds e f = λ x y met slot ls. absurd cc
  meet_alike parts carrying h s (RequestMove c) holds e f =
      requests_alike parts carrying h s.memory c
      (core_below parts.riding carrying s.memory c holds.memory
      (there_of parts.riding carrying s.memory (TakeRequest c) e)) f.all
  meet_alike parts carrying h s (ResponseMove c) holds e f =
      responses_alike parts carrying h s.memory c
      (core_below parts.riding carrying s.memory c holds.memory
      (there_of parts.riding carrying s.memory (TakeResponse c) e)) f.all
  meet_alike parts carrying h s (MessageMove c) holds e f =
      messages_alike parts carrying h s.memory c
      (core_below parts.riding carrying s.memory c holds.memory
      (there_of parts.riding carrying s.memory (TakeMessage c) e)) holds.memory e f.all
