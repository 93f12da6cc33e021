pub mod ReadPlaces
