pub mod Writers
pub mod Delivering
pub mod Steppings
pub mod Marks
pub mod Standings
pub mod Workings
