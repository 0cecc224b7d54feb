pub mod ClaimFacts
pub mod CauseFacts
