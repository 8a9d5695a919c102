pub mod ActivityEnds
pub mod SeenReaction
pub use Rattle.association_connecting.specs.association_answers as association_answers
pub use Rattle.association_connecting.specs.association_sends as association_sends
pub use Rattle.association_place.specs.association_state as association_state
pub use Rattle.association_takes.specs as association_takes
