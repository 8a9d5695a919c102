pub mod Added
pub mod AcseLaws
pub mod Shapes
pub mod PlainLaws
pub mod KnownLaws
