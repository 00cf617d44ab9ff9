pub mod Payload
pub mod Block
pub mod Cleared
pub mod Whole
