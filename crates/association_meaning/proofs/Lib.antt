pub mod Meant
pub mod Wrongs
pub mod Alls
pub mod Judged
pub mod Fails
pub mod FirstItems
pub mod Openings
