pub mod Exchanges
pub mod Outcomes
pub mod Links
pub mod Transferred
pub mod Worked
pub use Rattle.reliable_model.specs as reliable_model
