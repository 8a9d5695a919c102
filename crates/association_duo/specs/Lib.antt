pub mod Ran
pub mod Steps
pub use Rattle.association_end.specs as association_end
pub use Rattle.association_end.specs.association_line as association_line
pub use Rattle.association_runs.specs as association_runs
