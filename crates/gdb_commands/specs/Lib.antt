pub mod Numbers
pub mod Words
pub mod Filters
pub mod Commands
pub mod Lines
pub mod Forms
pub mod Payloads
