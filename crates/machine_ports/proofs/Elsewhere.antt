-- A core's move at its port: what it leaves of the other cores and ports.
use Rattle.std.proofs.Common.{◌≡◌, ◌≢◌, ℕ}
use Rattle.access_times.specs.Riding.{Carrying}
use Rattle.msi_memory.specs.Rests.{requests_at}
use Rattle.move_marks.proofs.OnePort.{OneSet, PortMoved, requests_other}
use Rattle.msi_state.specs.CoreStates.{CoresState}

-- the state after core c moved at its port
pub record MovedAt {C R K : Type 0} (s t : CoresState C R K) (c : ℕ) : Type 0 where
  pub image : t.image ≡ s.image
  pub cores : OneSet s.cores t.cores c
  pub memory : PortMoved s.memory t.memory c

-- what the other cores asked for is what it was
abbrev pub OthersStay : {C R K : Type 0} → (s t : CoresState C R K) → (c : ℕ) → Type 0
OthersStay s t c = (d : ℕ) → d ≢ c → requests_at t.memory.ports d ≡ requests_at s.memory.ports d

pub others_stay : {C R K : Type 0} (carrying : Carrying K) {s t : CoresState C R K} {c : ℕ} → MovedAt s t c →
    OthersStay s t c
others_stay carrying {s} {t} {c} moved = requests_other carrying s.memory t.memory c moved.memory
