pub mod Triples
