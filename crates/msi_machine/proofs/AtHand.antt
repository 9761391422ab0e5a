-- Who may read and write a block's copies, and that at the end each block's words are at hand: what holds of the memory
-- system holds of the machine, whose cores are at its ports.
use Rattle.std.proofs.Common.{◌≡◌, sym, subst, ℕ, ◌<◌, true, length}
use Rattle.access_times.specs.Riding.{Riding, Carrying}
use Rattle.msi_memory.specs.Finals.{at_hand}
use Rattle.msi_state.specs.States.{State, all_done}
use Rattle.machine_invariant.specs.Holds.{MachineHolds}
use Rattle.machine_invariant.proofs.DoneCores.{links_left}
use Rattle.machine_ports.proofs.AtHand.{ends_at_hand as at_hand_at_ports, one_writer as one_writer_at_ports}
use Rattle.msi_machine.specs.Writers.{OneWriterEach}

module _ {R K : Type 0} (riding : Riding R) (carrying : Carrying K) (s : State R K)
    (holds : MachineHolds riding carrying s) where
  pub one_writer : OneWriterEach riding carrying s
  one_writer b c d here there =
      one_writer_at_ports riding carrying s.memory holds.memory b c d (port_there c here) (port_there d there)
    where
      port_there : (k : ℕ) → k < length s.cores → k < length s.memory.ports
      port_there k within = subst (λ (n : ℕ). k < n) (sym holds.ports_there) within

  pub ends_at_hand : all_done s ≡ true → (b : ℕ) → at_hand riding carrying s.memory b ≡ true
  ends_at_hand done b =
      at_hand_at_ports riding carrying s.memory holds.memory (links_left riding carrying s holds done) b
