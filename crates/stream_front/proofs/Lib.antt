pub mod Shrinking
pub mod Turning
pub mod Fields
pub mod Lengths
pub mod Octets
pub mod Sound
pub mod Seen
