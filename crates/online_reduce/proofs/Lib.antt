pub mod CandidateLists
pub mod Loops
pub mod Rooms
pub mod KeptCandidates
pub mod ExactCandidates
pub mod Order
pub mod Clocks
pub mod Step
pub mod ExactNext
pub mod ByPair
pub mod PairCounts
pub mod Reductions
pub mod RetiredParts
pub mod LastNoted
pub mod TouchedState
mod SetReads
mod ListRests
mod Drawn
mod ReadLoop
