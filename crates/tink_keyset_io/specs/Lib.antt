pub mod Reading
pub mod Writing
pub mod Listed
pub mod ListedJson
pub mod Room
pub mod Edited
pub mod Files
