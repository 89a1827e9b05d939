pub mod Ascending
pub mod PlacesCall
