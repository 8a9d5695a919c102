pub mod Same
pub mod Codec
