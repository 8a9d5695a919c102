pub mod Faults
pub mod Laws
pub mod Pdvs
pub mod Printed
pub mod Reasons
pub mod Rows
pub mod Values
pub mod Whole
