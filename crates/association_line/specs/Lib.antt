pub mod Line
pub mod Feeding
pub mod OneFeed
pub mod OwnActs
pub mod Reactions
pub use Rattle.association_reading.specs as association_reading
pub use Rattle.association_reading.specs.association_wire as association_wire
