pub mod WholeTexts
pub mod UnusedInside
