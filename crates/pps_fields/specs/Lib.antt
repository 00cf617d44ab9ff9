pub mod ListReads
pub mod Sizes
pub mod Axis
pub mod ByCursor
pub mod Examples
