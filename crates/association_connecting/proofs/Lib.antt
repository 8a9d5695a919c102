pub mod Ones
pub mod Requests
pub mod OnTerms
