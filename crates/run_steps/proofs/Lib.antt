pub mod BlockWords
pub mod Clocks
pub mod RunStart
