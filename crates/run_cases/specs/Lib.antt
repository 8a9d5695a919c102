pub mod Cases
pub mod Copies
