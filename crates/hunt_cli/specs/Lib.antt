pub mod Kinds
pub mod RunEnds
pub mod Inputs
pub mod Statuses
pub mod OwnTurns
pub mod Finds
pub mod Answers
