pub mod Added
pub mod Lists
pub mod Forth
pub mod Back
pub mod Tries
pub mod Sizes
