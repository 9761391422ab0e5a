pub mod Accesses
pub mod CoreSets
pub mod Nodes
pub mod PairEdges
pub mod Pairs
pub mod Parameters
pub mod Sizes
pub mod Turns
