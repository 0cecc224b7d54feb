pub mod WithParams
pub mod Streaming
pub mod Aead
pub mod AesCtrHmac
pub mod Mac
pub mod Prf
pub mod Envelope
pub mod Daead
