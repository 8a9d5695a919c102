pub mod Passing
pub mod Showing
pub mod Outcomes
pub mod Transfers
pub mod Laws
