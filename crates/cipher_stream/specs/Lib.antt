pub mod Keystream
pub mod Contexts
pub mod ByteStream
pub mod StreamVectors
pub mod Laws
