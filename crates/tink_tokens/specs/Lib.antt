pub mod Inputs
pub mod TokenSteps
pub mod Tokens
