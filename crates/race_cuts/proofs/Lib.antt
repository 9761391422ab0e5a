pub mod OpenEdges
pub mod BackSteps
pub mod NextAccesses
pub mod TwoCuts
