pub mod View
pub mod Told
pub mod First
pub mod Feed
pub mod Checking
pub use Rattle.end_wire.specs as end_wire
