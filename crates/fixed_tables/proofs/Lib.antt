pub mod ListValues
pub mod Numbers
pub mod Sound
pub mod WholeLaws
