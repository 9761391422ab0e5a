pub mod Validity
pub mod Counts
pub mod Laws
pub mod Sources
