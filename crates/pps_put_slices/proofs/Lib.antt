pub mod Answered
pub mod Entries
pub mod Sized
pub mod SplitPut
pub mod MovePut
pub mod Signed
