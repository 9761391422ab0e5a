pub mod Followed
pub mod Images
pub mod Examples
