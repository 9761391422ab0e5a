pub mod Registers
pub mod Memory
pub mod Waits
pub mod Threads
pub mod Parts
pub mod Target
