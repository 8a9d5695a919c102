pub mod Calls
pub mod Fields
pub mod Words
pub mod Laws
pub use Rattle.end_model.specs as end_model
pub use Rattle.reliable_model.specs as reliable_model
