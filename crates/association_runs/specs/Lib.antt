pub mod Worlds
pub mod Octets
pub mod Sides
pub mod OwnExchanges
pub mod TransferLogsAt
pub mod Arriving
pub mod Laws
pub use Rattle.association_line.specs as association_line
pub use Rattle.outcome_laws.specs as outcome_laws
pub use Rattle.outcome_laws.specs.reliable_model as reliable_model
