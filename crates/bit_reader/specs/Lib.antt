pub mod Reading
pub mod Gives
pub mod Laws
pub mod ReadBack
pub mod Took
pub mod Extension
pub mod Examples
