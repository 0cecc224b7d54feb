pub mod SivFacts
pub mod KeysetFacts
pub mod RotationFacts
