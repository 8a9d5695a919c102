pub mod Loose
pub mod Takings
pub mod Transfers
