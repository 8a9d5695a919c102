pub mod View
pub mod Fed
pub mod Called
pub mod Seen
pub mod Progress
pub mod OneMessage
pub mod Changed
pub mod Sound
pub use Rattle.association_line.specs as association_line
