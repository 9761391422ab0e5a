pub mod Instrs
pub mod Lists
pub mod Members
pub mod PairPlaces
pub mod Truths
pub mod Ranges
