pub mod CodePlaces
pub mod OwnCodes
pub mod Readings
