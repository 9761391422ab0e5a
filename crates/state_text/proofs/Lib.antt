pub mod HexLemmas
pub mod PlaceLemmas
