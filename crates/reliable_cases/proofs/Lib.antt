pub mod Leading
pub mod Reached
