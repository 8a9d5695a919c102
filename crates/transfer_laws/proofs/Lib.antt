pub mod Configs
pub mod Spelled
pub mod Premises
