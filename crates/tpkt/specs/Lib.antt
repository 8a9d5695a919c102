pub mod Wire
pub mod Header
pub mod Reader
pub mod Stream
pub mod Written
