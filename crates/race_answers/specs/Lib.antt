pub mod Missing
pub mod Pcs
pub mod Instrs
pub mod Sites
pub mod About
pub mod Decisions
pub mod Asking
pub mod Traces
