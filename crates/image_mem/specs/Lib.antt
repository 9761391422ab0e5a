pub mod Contents
pub mod Lanes
