pub mod Turns
pub mod Groups
pub mod Joints
