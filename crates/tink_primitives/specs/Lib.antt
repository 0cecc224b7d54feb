pub mod Meaning
pub mod MeaningLaws
pub mod Sorts
