pub mod OwnActs
pub mod Called
