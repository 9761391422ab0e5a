pub mod Bytes
pub mod Frames
pub mod Readers
pub mod Numbers
pub mod Texts
pub mod Asks
pub mod Replies
pub mod Lines
