pub mod Fill
pub mod GridChecks
