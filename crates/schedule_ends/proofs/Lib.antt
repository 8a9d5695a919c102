pub mod Fitted
pub mod Premises
