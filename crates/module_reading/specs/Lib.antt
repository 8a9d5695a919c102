pub mod Printed
pub mod Words
pub mod Modules
pub mod Laws
