pub mod Room
pub use Rattle.association_wire.specs as association_wire
