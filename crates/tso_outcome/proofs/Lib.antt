pub mod ByCore
pub mod ToldLoads
pub mod RunPlaces
pub mod Behind
