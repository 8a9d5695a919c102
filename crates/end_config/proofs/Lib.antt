pub mod Contexts
pub mod Connects
pub mod Proposes
