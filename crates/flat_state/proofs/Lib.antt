pub mod RingWrites
pub mod HomeBlocks
pub mod NodeReads
pub mod Retired
pub mod Frames
pub mod HomeTurns
