pub mod Codecs
pub mod Laws
pub use Rattle.end_config.specs as end_config
pub use Rattle.end_wire.specs as end_wire
