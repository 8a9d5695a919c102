pub mod Directions
pub mod Trace
pub mod ShownSoFar
pub mod Laws
