pub mod RunPlaces
