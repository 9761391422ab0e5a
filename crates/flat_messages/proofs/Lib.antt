pub mod HeardNodes
pub mod WordMoves
pub mod DataMoves
