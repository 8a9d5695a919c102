pub mod Fitting
pub mod Ends
