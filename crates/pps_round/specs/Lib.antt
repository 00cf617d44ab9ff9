pub mod SlicesBack
pub mod SetBack
pub mod LentBack
pub mod TakenAgain
pub mod UnitRead
pub mod RoundTrip
