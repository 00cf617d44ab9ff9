pub mod Questions
pub mod Steps
pub mod Tables
pub mod Walking
pub mod Refusing
pub mod Sliced
