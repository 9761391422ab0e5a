pub mod DealtWorkers
pub mod TurnEnds
pub mod DoneLoads
pub mod Shorts
pub mod SeatSteps
