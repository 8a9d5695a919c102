pub mod Forms
pub mod Items
pub mod Octets
pub mod Sizes
