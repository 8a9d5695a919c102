pub mod Calls
pub mod Heads
pub mod Values
pub mod ApduProblems
pub mod Hearing
pub mod Laws
pub use Rattle.apdu_spelling.specs as apdu_spelling
pub use Rattle.end_wire.specs.end_rules as end_rules
pub use Rattle.end_wire.specs as end_wire
