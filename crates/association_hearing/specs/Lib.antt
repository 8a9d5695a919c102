pub mod ValuesTaken
pub use Rattle.association_answers.specs as association_answers
pub use Rattle.association_answers.specs.association_calls as association_calls
pub use Rattle.association_answers.specs.association_sends as association_sends
pub use Rattle.association_answers.specs.association_state as association_state
pub use Rattle.association_answers.specs.open_invocations as open_invocations
pub use Rattle.rose_roles.specs as rose_roles
