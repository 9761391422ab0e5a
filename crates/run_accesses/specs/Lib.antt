pub mod Accesses
pub mod Clerks
pub mod TsoAccesses
