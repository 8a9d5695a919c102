pub mod Merging
pub mod Short
pub mod Comparing
pub mod Below
