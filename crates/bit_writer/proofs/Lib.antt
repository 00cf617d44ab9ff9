pub mod Steps
pub mod Chunked
pub mod Ended
pub mod Coding
pub mod Copying
pub mod ByValue
