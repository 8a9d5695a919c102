pub mod Meeting
pub mod Settings
pub mod Calls
pub mod Alterations
pub mod Events
pub mod SetupLines
pub mod Schedules
pub mod Laws
pub use Rattle.end_config.specs as end_config
