pub mod FileLoaded
pub mod Building
pub mod TokenSteps
