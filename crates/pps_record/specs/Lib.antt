pub mod Ctbs
pub mod Absent
pub mod Groups
