pub mod Lines
pub mod Worlds
pub mod InTransit
pub mod Laws
pub use Rattle.association_reading.specs as association_reading
pub use Rattle.association_reading.specs.association_wire as association_wire
pub use Rattle.association_reading.specs.ppdu_laws as ppdu_laws
pub use Rattle.said_words.specs as said_words
