pub mod Sizes
pub mod Pending
pub mod States
pub mod Moves
pub mod Events
pub mod Steps
pub mod FinalMemory
pub mod Runs
