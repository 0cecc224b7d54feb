pub mod Collected
pub mod RawEntries
pub mod SetSteps
