pub mod DeltaBits
pub mod Rows
pub mod Places
