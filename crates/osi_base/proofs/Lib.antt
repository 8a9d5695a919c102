pub mod Contents
pub mod Placing
pub mod Grown
pub mod OctetLaws
pub mod Shuts
pub mod Syntaxes
pub mod Whole
