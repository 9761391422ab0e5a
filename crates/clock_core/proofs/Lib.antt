pub mod EdgeLists
pub mod MergedClocks
pub mod Paths
pub mod Reach
