pub mod Timed
pub mod Absorbing
