pub mod Tests
pub mod Phases
pub mod Openings
pub mod Numbers
pub mod Handing
pub mod Calling
