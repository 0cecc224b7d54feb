pub mod InputSteps
pub mod MacFacts
pub mod ToldLemmas
pub mod TokenCalls
pub mod CompleteFacts
