pub mod Block
pub mod RbspRead
pub mod BlocksCounted
