pub mod DueFacts
pub mod PutSteps
pub mod StreamFacts
pub mod BeginningFacts
pub mod ReadingSteps
