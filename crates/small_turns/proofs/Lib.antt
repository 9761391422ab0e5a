pub mod PassSteps
pub mod PlacesReached
pub mod Weights
