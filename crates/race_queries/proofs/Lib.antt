pub mod Writes
pub mod Edges
pub mod AccessLemmas
pub mod ConflictLemmas
pub mod EndLemmas
pub mod LogEdges
mod LoadsBehind
