pub mod Fields
pub mod Headers
pub mod FlatImage
pub mod Cases
pub mod Faults
pub mod Cells
pub mod Laws
