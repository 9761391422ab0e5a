pub mod Tries
pub mod NoLogs
pub mod Fronts
pub mod Cuts
pub mod OtherPlaces
pub mod Rows
pub mod OtherPlays
