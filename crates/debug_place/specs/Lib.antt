pub mod Places
pub mod Walks
pub mod Stops
pub mod Backs
pub mod Hits
