pub mod Seen
pub use Rattle.association_pieces.specs as association_pieces
pub use Rattle.association_reading.specs as association_reading
pub use Rattle.open_invocations.specs as open_invocations
pub use Rattle.open_invocations.specs.rose_roles as rose_roles
