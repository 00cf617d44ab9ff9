pub mod RecordTests
pub mod Asked
pub mod UnitDemand
