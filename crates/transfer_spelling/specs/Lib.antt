pub mod Laws
pub use Rattle.reliable_model.specs as reliable_model
