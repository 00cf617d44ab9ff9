pub mod EachPut
pub mod Named
