pub mod Shows
pub mod Worlds
pub mod Passing
pub mod Outcomes
pub mod Allowed
pub mod Carrying
pub mod Laws
pub mod Cutting
pub mod Ran
pub mod Steps
pub mod Cases
pub use Rattle.bare_end.specs as bare_end
pub use Rattle.bare_end.specs.end_wire as end_wire
