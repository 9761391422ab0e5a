pub mod ByPairs
pub mod ListedRecordings
pub mod ItemsInTurn
