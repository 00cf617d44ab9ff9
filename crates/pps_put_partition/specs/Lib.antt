pub mod Puts
pub mod Made
pub mod GridTests
pub mod Rest
