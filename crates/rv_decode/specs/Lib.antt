pub mod Atomics
pub mod Fields
pub mod Laws
pub mod Ranges
pub mod Table
pub mod Words
