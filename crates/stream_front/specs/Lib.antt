pub mod Fronts
pub mod Resuming
pub mod Steps
pub mod Laws
