pub mod Names
pub mod Units
pub use Rattle.trace_values.specs as trace_values
