pub mod Words
pub mod Zeros
pub mod Gives
pub mod ByCursor
pub mod Stuck
