-- Where nothing is under way, the final memory of a machine is the memory, as it is of any memory system.
use Rattle.std.proofs.Common.{◌≡◌, ℕ, true, List}
use Rattle.access_times.specs.Riding.{Riding, Carrying}
use Rattle.msi_laws.proofs.Final.{final_current as memory_current}
use Rattle.msi_laws.specs.Moving.{links_empty}
use Rattle.msi_state.specs.FinalMemory.{final_words}
use Rattle.msi_state.specs.States.{State}
use Rattle.machine_data.specs.Coherent.{Coherent}
use Rattle.machine_invariant.specs.Holds.{MachineHolds}
pub use Rattle.msi_laws.proofs.Final.{all_quiet}

module _ {R K : Type 0} where
  pub final_current : (riding : Riding R) (carrying : Carrying K) (s : State R K) (memory : ℕ → List ℕ) →
      MachineHolds riding carrying s → links_empty s.memory ≡ true → Coherent riding carrying s memory → (b : ℕ) →
      final_words riding carrying s b ≡ memory b
  final_current riding carrying s memory h empty k b =
      memory_current riding carrying s.memory memory h.memory empty k b
