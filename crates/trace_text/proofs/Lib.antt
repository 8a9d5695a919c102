pub mod SaidLaws
pub mod ShownLaws
pub mod OneTrace
