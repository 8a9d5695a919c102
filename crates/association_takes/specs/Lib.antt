pub mod Pleas
pub mod ActivityWords
