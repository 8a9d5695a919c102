pub mod Replies
pub mod Rooms
pub mod Outcomes
pub use Rattle.association_state.specs.association_reading as association_reading
pub use Rattle.association_state.specs as association_state
pub use Rattle.association_state.specs.open_invocations as open_invocations
