pub mod RunLemmas
pub mod LedOnLemmas
pub mod EndLemmas
pub mod Unpadding
pub mod BytesRun
pub mod MessageLemmas
mod SinglyLemmas
mod BegunLemmas
