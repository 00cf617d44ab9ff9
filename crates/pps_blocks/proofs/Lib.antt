pub mod IdReads
pub mod Triples
