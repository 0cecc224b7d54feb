pub mod Led
pub mod Parts
pub mod Chunks
pub mod UnderTweak
pub mod Alike
pub mod Lanes
