pub mod Codes
pub mod HeadsHeard
pub mod Invoked
pub mod Resumed
pub mod Taking
