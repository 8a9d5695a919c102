pub mod Rows
pub mod Slots
pub mod Calls
pub mod PartsFrom
pub mod ShortParts
