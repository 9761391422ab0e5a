pub mod Choices
pub mod Standing
