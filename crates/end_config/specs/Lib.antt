pub mod Connecting
pub mod Refusing
pub mod Proposing
pub use Rattle.presentation_pdus.specs as presentation_pdus
