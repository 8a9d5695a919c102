pub mod Associated
pub mod Agreed
pub mod Joined
pub mod Terms
pub mod Accepted
pub use Rattle.association_answers.specs as association_answers
pub use Rattle.association_answers.specs.association_sends as association_sends
