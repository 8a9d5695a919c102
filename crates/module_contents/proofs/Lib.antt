pub mod MissingBer
pub mod MissingPacked
pub mod Missing
pub mod Saying
