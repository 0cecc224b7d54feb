pub mod Draws
pub mod Words
pub mod Streams
pub mod Keysets
pub mod Large
pub mod Ranges
pub mod TokenPromises
pub mod Program
