pub mod Actors
pub mod Counts
pub mod Few
pub mod Texts
pub mod Turns
