pub mod ShortParts
pub mod Calls
pub mod Parts
