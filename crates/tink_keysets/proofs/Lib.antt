pub mod ReadBack
pub mod ThroughFacts
pub mod ValidFacts
pub mod TypedSets
pub mod TypingFacts
pub mod KeyEntries
pub mod LastingFacts
