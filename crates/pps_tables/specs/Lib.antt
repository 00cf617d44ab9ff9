pub mod Cleared
pub mod Lent
pub mod LentMut
pub mod Mutable
pub mod Parameters
pub mod Rows
