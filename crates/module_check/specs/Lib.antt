pub mod Command
pub mod SoFar
pub mod Checking
