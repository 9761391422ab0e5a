pub mod Openings
pub mod Fits
pub mod Forgets
pub mod LentRequests
pub mod KeptEntries
pub mod Sparse
pub mod Rows
