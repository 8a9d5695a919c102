pub mod Changes
pub mod Links
pub mod Merging
pub mod Sound
