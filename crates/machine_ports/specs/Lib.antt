pub mod Writers
pub mod Marks
pub mod Steppings
