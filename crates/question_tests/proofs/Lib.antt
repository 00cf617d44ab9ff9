pub mod EntryLaws
pub mod SlicingLaws
pub mod StepLaws
