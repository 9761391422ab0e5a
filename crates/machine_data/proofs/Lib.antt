pub mod Memory
pub mod OpeningWords
pub mod Values
pub mod Recalls
pub mod WordSteps
pub mod Final
pub mod Remembers
pub mod OneMore
