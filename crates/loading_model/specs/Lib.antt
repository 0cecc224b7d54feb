pub mod Building
pub mod Loading
pub mod Rotation
