pub mod MarkedMoves
pub mod Followed
pub mod LastWords
pub mod LeftSteps
