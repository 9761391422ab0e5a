pub mod Table
pub mod Messages
pub mod Lines
pub mod Lent
pub mod PlainPart
pub mod Held
pub mod Handing
pub mod Waiting
