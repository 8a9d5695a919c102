pub mod Laws
pub use Rattle.association_reading.specs as association_reading
pub use Rattle.association_reading.specs.association_wire as association_wire
