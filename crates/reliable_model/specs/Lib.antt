pub mod Codecs
pub mod Transferring
pub mod Ledgers
pub mod OwnRows
pub mod ReliableEnds
pub mod Transfers
pub use Rattle.end_model.specs as end_model
pub use Rattle.end_model.specs.end_rules as end_rules
