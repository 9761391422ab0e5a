pub mod OpenCuts
pub mod BackSteps
pub mod Clashes
