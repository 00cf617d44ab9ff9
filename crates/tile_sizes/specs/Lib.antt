pub mod Answers
pub mod Laws
pub mod Left
pub mod Limits
pub mod Padded
