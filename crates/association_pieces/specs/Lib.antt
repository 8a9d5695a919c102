pub mod NewestEnd
pub mod Nodes
pub mod Pieces
pub mod Link
pub mod Sending
pub mod Seen
