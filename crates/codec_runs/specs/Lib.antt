pub mod DirectLaws
pub mod DirectWorlds
pub mod ReliableLaws
pub mod ReliableWorlds
pub use Rattle.association_worlds.specs.association_reading as association_reading
pub use Rattle.said_worlds.specs.said_spellings as said_spellings
pub use Rattle.said_worlds.specs as said_worlds
