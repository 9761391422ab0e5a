-- Each act that can be made keeps the invariant.
use Rattle.access_times.specs.Riding.{Riding, Carrying}
use Rattle.msi_laws.specs.Holds.{KeepsLaw}
use Rattle.msi_laws.proofs.PortsKept.{ports_kept}
use Rattle.msi_laws.proofs.Properties.{shows_kept}

pub memory_kept : {R K : Type 0} (riding : Riding R) (carrying : Carrying K) → KeepsLaw riding carrying
memory_kept riding carrying m act e h =
    let ports = ports_kept riding carrying m act e h in
    record { cores = ports.cores; ports = ports.ports; shows = shows_kept riding carrying m act h e h.shows }
