pub mod Printed
pub mod Reading
pub mod Fields
pub mod Numbers
pub mod ObjectIds
pub mod Rules
pub mod Writing
pub mod Laws
