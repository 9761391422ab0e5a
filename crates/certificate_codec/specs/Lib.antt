pub mod Rows
pub mod Ends
pub mod Validity
pub mod Spelling
pub mod Reading
pub mod Laws
pub mod BadParts
