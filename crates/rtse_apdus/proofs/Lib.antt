pub mod Added
pub mod RtseLaws
pub mod TransferLaws
