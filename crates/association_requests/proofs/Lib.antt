pub mod Rows
pub mod Invoked
pub mod Outcomes
pub mod Parts
pub mod Sendings
