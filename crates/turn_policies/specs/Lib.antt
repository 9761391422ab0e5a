pub mod Listed
pub mod Named
pub mod PickedTurns
pub mod Policies
pub mod Ranked
pub mod Straight
pub mod TurnByTurn
pub mod Walks
