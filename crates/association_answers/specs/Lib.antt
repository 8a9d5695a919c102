pub mod BroughtAs
pub use Rattle.association_calls.specs as association_calls
pub use Rattle.association_calls.specs.association_reading as association_reading
pub use Rattle.association_sends.specs as association_sends
pub use Rattle.association_calls.specs.association_state as association_state
pub use Rattle.association_calls.specs.open_invocations as open_invocations
