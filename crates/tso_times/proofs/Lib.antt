pub mod Orders
pub mod MoveTimes
pub mod NoAccessYet
pub mod MetRiders
