pub mod Moved
pub mod SliceLoop
