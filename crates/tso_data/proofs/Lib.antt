pub mod WordSteps
pub mod Loads
pub mod Remembers
pub mod Events
pub mod LoggedWords
pub mod ByteWords
