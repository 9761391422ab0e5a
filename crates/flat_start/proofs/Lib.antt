pub mod StartNodes
pub mod MoreBlocks
