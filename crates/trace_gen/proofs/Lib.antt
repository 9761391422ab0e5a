pub mod FetchedWords
pub mod FitLemmas
pub mod Lengths
pub mod MixLemmas
pub mod WordBounds
