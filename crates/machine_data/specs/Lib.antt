pub mod Coherent
pub mod LastValues
pub mod OneMore
