pub mod KeyFacts
pub mod UsableKeys
pub mod ChoosingFacts
pub mod AloneFacts
pub mod PlaceFacts
pub mod RotationFacts
