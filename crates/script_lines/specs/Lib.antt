pub mod Lines
pub mod Printed
pub mod Reading
pub mod Fields
pub mod Syntaxes
pub mod Values
pub mod Operations
pub mod Invoked
