pub mod Meant
pub mod Said
pub mod Transfers
pub mod Existing
