pub mod Bits
pub mod BuiltFields
pub mod DecodedFits
pub mod Joins
pub mod RoundTrip
