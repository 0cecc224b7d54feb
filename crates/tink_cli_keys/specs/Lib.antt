pub mod KeyFiles
pub mod Refusing
pub mod Saving
pub mod Wrapping
