pub mod ClosedCuts
pub mod CutStates
pub mod Frees
pub mod Dues
