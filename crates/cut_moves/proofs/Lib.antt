pub mod Unions
pub mod Hulls
pub mod OneStep
pub mod Fronts
pub mod Rounds
pub mod Along
pub mod TakenRounds
pub mod TakenWay
mod Short
pub mod SeatCounts
mod WindowWay
mod CutWindows
mod SeatHalves
mod StepsBack
pub mod WayPlaces
