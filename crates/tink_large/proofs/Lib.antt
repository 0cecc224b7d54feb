pub mod TextFacts
pub mod SealedSteps
pub mod OpeningSteps
pub mod LargeFacts
pub mod StartSteps
