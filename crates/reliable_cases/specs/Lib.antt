pub mod Played
pub mod Events
pub mod Copies
