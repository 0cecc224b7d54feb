pub mod Enums
pub mod Outcome
pub mod View
pub mod Messages
