pub mod Drafts
pub mod Turns
pub mod LineLaws
pub mod Bare
pub mod Settled
pub mod Run
pub mod BareRun
