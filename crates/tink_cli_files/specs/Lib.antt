pub mod Saved
pub mod Streams
pub mod Tasks
pub mod Masters
pub mod Wrapping
pub mod ThereAndBack
