pub mod Acts
pub mod Orders
pub mod Passes
pub mod Small
