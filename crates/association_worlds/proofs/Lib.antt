pub mod Streams
pub mod Kept
pub mod Heard
pub mod Calm
pub mod Said
