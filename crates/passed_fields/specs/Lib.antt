pub mod AllOctets
pub mod Known
pub mod Passing
pub mod Reading
pub mod Spelling
