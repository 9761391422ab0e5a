pub mod Atomics
pub mod Laws
pub mod Needs
pub mod Operations
pub mod States
pub mod Steps
pub mod StoreMask
pub mod Programs
