pub mod Uses
pub mod Told
pub mod Questions
