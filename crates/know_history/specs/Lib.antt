pub mod Knowledge
pub mod Happenings
pub mod Knowing
pub mod Laws
pub mod Notes
pub mod Rows
pub mod Changes
