pub mod Grounds
pub mod Printed
pub mod Steps
pub mod Informing
pub mod Words
pub use Rattle.association_intake.specs as association_intake
