pub mod Sights
pub mod Links
pub mod Holds
pub mod Words
pub mod Waits
pub mod Ready
pub mod Moving
pub mod Walks
