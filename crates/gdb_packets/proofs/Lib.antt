pub mod BodyBytes
pub mod ReadBack
pub mod ReaderLemmas
pub mod TextLemmas
pub mod NumberLemmas
pub mod ActionLemmas
pub mod AskLemmas
pub mod ThreadLemmas
