pub mod Conduct
pub mod Events
