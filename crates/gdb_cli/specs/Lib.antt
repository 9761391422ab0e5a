pub mod Words
pub mod Cores
pub mod Sessions
pub mod Answers
