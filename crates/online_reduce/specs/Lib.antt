pub mod Rule
pub mod Sources
pub mod Reduced
pub mod LiveReads
pub mod Exact
pub mod Sizes
