pub mod Steps
pub mod Fields
pub mod Singles
pub mod Several
pub mod Rows
pub mod FirstFaults
pub mod WorkedFaults
