pub mod Parts
pub mod Entries
pub mod Grids
pub mod Loop
