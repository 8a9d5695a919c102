pub mod Counts
pub mod Sents
pub mod Flows
pub mod Events
pub mod Whole
