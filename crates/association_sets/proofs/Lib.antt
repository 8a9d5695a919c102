pub mod Placing
pub mod Fits
