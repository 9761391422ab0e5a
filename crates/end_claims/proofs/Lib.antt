pub mod HexNumbers
pub mod Ranges
