pub mod Aligned
pub mod BackValues
pub mod SaidBack
pub mod SetBack
pub mod UnitsBack
pub mod KnownUnits
pub mod KnownValues
