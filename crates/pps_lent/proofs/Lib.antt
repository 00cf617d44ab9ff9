pub mod SplitTotal
pub mod CountsSame
