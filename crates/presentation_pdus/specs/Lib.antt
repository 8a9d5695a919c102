pub mod Fields
pub mod Items
pub mod Laws
pub mod Printed
pub mod Rows
pub mod Selected
pub mod Units
pub mod Words
