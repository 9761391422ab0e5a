pub mod Hits
pub mod Writes
pub mod AskingNodes
