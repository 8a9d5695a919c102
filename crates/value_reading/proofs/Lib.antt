pub mod Bits
pub mod Octets
pub mod Quoted
pub mod ReadLaws
pub mod Slots
pub mod Turns
pub mod Until
