pub mod Words
pub mod Passing
pub mod Wires
pub mod Sessions
pub mod Hearing
