pub mod Unions
pub mod Steps
pub mod Rounds
pub mod Ways
pub mod Seats
