pub mod RotationFacts
pub mod TagFacts
pub mod SoundFacts
pub mod DotFacts
pub mod LastingFacts
pub mod TokenFacts
