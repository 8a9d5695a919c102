pub mod Rows
pub mod Words
pub mod Reading
pub mod Written
pub mod Laws
pub mod TransferRows
pub mod Transfer
