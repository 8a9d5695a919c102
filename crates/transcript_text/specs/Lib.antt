pub mod Words
pub mod Typed
pub mod Calls
pub mod Indications
pub mod Texts
pub mod Counts
