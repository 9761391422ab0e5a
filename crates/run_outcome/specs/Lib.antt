pub mod Loads
pub mod Outcomes
pub mod EveryRun
pub mod Retirement
