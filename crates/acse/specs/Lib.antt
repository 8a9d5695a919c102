pub mod Fields
pub mod Known
pub mod Laws
pub mod Plain
pub mod Rows
pub mod Words
pub mod Written
