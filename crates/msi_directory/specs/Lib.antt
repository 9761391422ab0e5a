pub mod Table
pub mod Entries
pub mod Blocks
pub mod Kept
pub mod PlainPart
pub mod Fitting
pub mod Deeds
pub mod KeptDeeds
