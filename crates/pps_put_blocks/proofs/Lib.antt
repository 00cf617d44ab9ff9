pub mod Triples
pub mod SubpicIds
pub mod TripleList
