pub mod Clerks
pub mod Ends
pub mod Ways
