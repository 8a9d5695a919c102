pub mod Printed
pub mod Refusals
pub mod Pieces
pub mod Outcomes
pub mod HeadsRead
pub mod Laws
pub mod Lengths
