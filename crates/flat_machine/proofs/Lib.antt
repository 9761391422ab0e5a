pub mod MadeMoves
pub mod MarkedChoice
pub mod LineWays
pub mod NewEntries
pub mod StartMarks
pub mod LastPlaces
mod ForgottenPlaces
