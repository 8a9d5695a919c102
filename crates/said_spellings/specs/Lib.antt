pub mod Laws
pub use Rattle.acse.specs as acse
pub use Rattle.association_worlds.specs as association_worlds
