pub mod RotationFacts
pub mod ComposedKeyFacts
pub mod EnvelopeFacts
pub mod Chained
pub mod EnvelopeSteps
pub mod SameAnswers
pub mod SoundFacts
