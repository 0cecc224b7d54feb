pub mod StreamingKeys
pub mod StreamKinds
pub mod Encrypting
pub mod NewStreams
pub mod Decrypting
pub mod Decrypters
pub mod Memory
pub mod Rooms
