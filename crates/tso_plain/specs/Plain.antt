-- The plain part of a state, which is that of any cores.
pub use Rattle.machine_plain.specs.Plain.{plain}
