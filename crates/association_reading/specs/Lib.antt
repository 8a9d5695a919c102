pub mod Front
pub mod Places
pub mod Contexts
pub mod Values
pub mod Association
pub mod Meaning
pub mod Transfers
pub mod Reacting
pub mod Cases
pub mod Laws
pub mod Associating
pub use Rattle.association_wire.specs as association_wire
pub use Rattle.association_wire.specs.end_rules as end_rules
pub use Rattle.ppdu_laws.specs as ppdu_laws
