pub mod Buffers
pub mod Transcript
pub mod Contexts
pub mod TweakContexts
pub mod BlockVectors
