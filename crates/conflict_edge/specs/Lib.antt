pub mod Conflicts
pub mod Least
pub mod Clocks
pub mod Times
pub mod Scan
pub mod Sizes
