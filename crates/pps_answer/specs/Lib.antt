pub mod Lending
pub mod Before
pub mod Answers
pub mod ParsePps
