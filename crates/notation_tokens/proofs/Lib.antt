pub mod Numbers
pub mod Names
pub mod Cutting
pub mod Spans
pub mod Gaps
pub mod Longest
pub mod Climbing
pub mod Stopping
