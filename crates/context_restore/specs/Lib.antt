pub mod Printed
pub mod Versions
pub mod SavedSets
pub mod Chain
