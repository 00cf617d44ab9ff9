pub mod Elements
pub mod Examples
pub mod Once
pub mod Round
pub mod PutSteps
pub mod StopSteps
pub mod WriteSteps
pub mod Steps
