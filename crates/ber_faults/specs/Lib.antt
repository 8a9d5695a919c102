pub mod Fields
pub mod Values
pub mod FirstFault
pub mod Nesting
pub mod Laws
pub mod Examples
