pub mod Memories
pub mod Acts
pub mod Rests
pub mod Turns
pub mod Waiting
pub mod Finals
pub mod PlainPart
pub mod Heads
