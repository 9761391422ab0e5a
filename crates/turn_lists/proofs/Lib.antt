pub mod Blocks
pub mod ListCounts
pub mod NumeralLemmas
pub mod ListByNumber
pub mod SpelledOnce
pub mod ReadingPlaces
pub mod TextLemmas
pub mod TurnChanges
