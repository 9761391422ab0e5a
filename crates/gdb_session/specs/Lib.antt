pub mod Wishes
pub mod Orders
pub mod Ranged
pub mod Seats
pub mod Told
pub mod Extended
pub mod Commanded
pub mod Answers
