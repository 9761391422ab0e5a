pub mod Runs
pub mod Flat
