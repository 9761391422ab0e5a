pub mod Leading
pub mod Listed
