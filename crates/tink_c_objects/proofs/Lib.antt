pub mod Values
pub mod SlotSteps
pub mod Filled
pub mod WriterSteps
pub mod Refilled
