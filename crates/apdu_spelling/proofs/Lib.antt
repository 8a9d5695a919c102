pub mod HeadsSound
pub mod OneHead
pub mod HeadFits
pub mod Written
pub mod Identifiers
