pub mod Octets
pub mod Fitting
