pub mod PartitionAnswer
pub mod TileSizes
pub mod SliceFlags
pub mod GridTests
pub mod Slicing
