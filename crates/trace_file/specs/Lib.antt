pub mod Lines
pub mod Grammar
pub mod Printed
pub mod Reading
