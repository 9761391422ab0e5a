pub mod Machines
pub mod Ways
