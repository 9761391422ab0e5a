pub mod Cuts
pub mod Unique
pub mod Orders
pub mod Ways
