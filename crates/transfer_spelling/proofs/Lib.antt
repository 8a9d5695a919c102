pub mod Lengths
pub mod Writable
pub mod Transfers
