pub mod Faults
pub mod Printed
pub mod Sending
pub mod Receiving
pub mod Exchange
