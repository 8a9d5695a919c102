pub mod Added
pub mod Joined
pub mod Shapes
pub mod SelectedLaws
pub mod UnitLaws
