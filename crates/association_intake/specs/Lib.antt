pub mod Seen
pub mod View
pub use Rattle.association_reading.specs as association_reading
