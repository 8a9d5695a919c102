pub mod Carried
pub mod Typed
