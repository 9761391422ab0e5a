pub mod ToldValues
pub mod ClerkTells
pub mod RecordedPlaces
