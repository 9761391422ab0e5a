pub mod History
pub mod StandsFor
pub mod Retirements
pub mod TimedSteps
pub mod Absorbing
pub mod ExactTimes
pub mod TimedRuns
