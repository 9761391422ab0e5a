pub mod OwnCuts
pub mod WalkedWay
pub mod StateAtStop
pub mod AtCuts
pub mod StopPlaces
mod CountTests
mod SeatTests
mod PlaceMoves
pub mod AllSteps
