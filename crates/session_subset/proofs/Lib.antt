pub mod TurnLaws
pub mod WritableLaws
pub mod PhaseLaws
