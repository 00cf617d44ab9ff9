pub mod Records
pub mod Cases
