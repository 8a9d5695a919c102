pub mod Heads
pub mod Rows
pub mod Values
pub mod Spellings
pub mod Writing
pub mod Laws
