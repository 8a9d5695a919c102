pub mod Seen
pub mod Rows
pub mod Meant
pub mod OpenInvocations
pub mod Words
pub mod Acting
pub mod Heard
pub mod Requests
pub mod Takings
pub mod BothEnds
pub mod Openings
pub mod Connections
pub mod OwnActs
pub mod Faultless
pub mod Steps
pub mod DirectEnds
pub mod Sharing
pub mod FaultlessOthers
pub use Rattle.dialogue.specs as dialogue
pub use Rattle.end_rules.specs as end_rules
