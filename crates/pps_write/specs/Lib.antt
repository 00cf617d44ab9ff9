pub mod Forms
pub mod SetPut
pub mod Block
pub mod Runs
