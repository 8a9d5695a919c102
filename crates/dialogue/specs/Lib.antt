pub mod Config
pub mod Carries
pub mod Sides
pub mod Printed
