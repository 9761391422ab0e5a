pub mod Exits
pub mod Logs
pub mod Pieces
pub mod States
pub mod Checks
pub mod Cuts
