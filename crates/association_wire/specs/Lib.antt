pub mod Values
pub mod Units
pub mod Written
pub mod Cases
pub use Rattle.end_rules.specs as end_rules
