pub mod Clerks
pub mod Promises
pub mod Standing
