pub mod Escape
pub mod Laws
pub mod Answers
pub mod RoundTrip
pub mod Lengths
pub mod StartCodes
pub mod Examples
