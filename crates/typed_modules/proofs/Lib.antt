pub mod TypedRows
pub mod Numbers
pub mod Assigned
pub mod Files
pub mod Modules
