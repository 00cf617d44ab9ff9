pub mod Sizes
pub mod Parts
pub mod EntryPut
pub mod Tabled
pub mod Held
