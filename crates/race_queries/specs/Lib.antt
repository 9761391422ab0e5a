pub mod Queries
pub mod Places
pub mod Conflicts
pub mod Ends
