pub mod Histories
pub mod Sent
pub mod Messages
pub mod Taken
pub mod Fed
pub mod Fronts
pub mod Answered
pub mod Heard
