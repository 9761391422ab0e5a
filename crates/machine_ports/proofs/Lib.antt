pub mod AtHand
pub mod Elsewhere
pub mod CoreRanges
