pub mod AddingFacts
pub mod GivenData
pub mod TestFacts
pub mod MasterFacts
pub mod ShownLemmas
