pub mod NodeMarks
pub mod OneNode
pub mod Waiting
pub mod CoreMarks
pub mod AskMarks
pub mod HomeMarks
