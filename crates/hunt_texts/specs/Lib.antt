pub mod Shown
pub mod Seen
pub mod Tables
pub mod Reports
pub mod Uses
pub mod Told
