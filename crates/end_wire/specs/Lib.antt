pub mod Heads
pub mod Values
pub mod Bare
pub mod Line
pub mod Feeding
pub mod Laws
pub use Rattle.apdu_codec.specs as apdu_codec
pub use Rattle.end_rules.specs as end_rules
