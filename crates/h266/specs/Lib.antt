pub mod Header
pub mod Examples
