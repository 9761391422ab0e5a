pub mod Holds
pub mod Promises
