pub mod Seconds
pub mod Rates
