pub mod Cases
pub mod OneTables
pub mod TablesOrFault
pub mod Faultless
pub mod Few
