pub mod FirstFound
pub mod ChangedRanks
pub mod SetMembers
pub mod TurnSteps
pub mod PickedAgain
pub mod PicksListed
