pub mod Codes
pub mod Places
pub mod Lookup
pub mod Uses
pub mod AnyValue
pub mod Apdus
pub mod Readable
