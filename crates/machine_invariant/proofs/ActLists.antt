-- Acts of the memory system, one after the other: what is proved of them below the machine.
pub use Rattle.msi_laws.proofs.ActsInTurn.{folded, acts_hold, acts_keep, acts_carry, ports_after_acts, home_after_act}
pub use Rattle.msi_laws.proofs.ActsInTurn.{home_after_acts, port_elsewhere, port_again, port_same}
