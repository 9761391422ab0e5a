pub mod Members
pub mod Kinds
pub mod Turns
pub mod Ports
