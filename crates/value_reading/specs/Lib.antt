pub mod Found
pub mod Words
pub mod Forms
pub mod Typed
