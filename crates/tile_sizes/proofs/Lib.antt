pub mod Blocks
pub mod Count
pub mod Next
pub mod Split
