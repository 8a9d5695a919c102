pub mod Arcs
pub mod Answered
pub mod Entries
pub mod Counting
