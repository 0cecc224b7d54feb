pub mod OfStatus
pub mod Unknown
