pub mod Invocations
pub use Rattle.rose_roles.specs as rose_roles
