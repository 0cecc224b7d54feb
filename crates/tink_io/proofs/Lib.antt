pub mod FaultLemmas
pub mod MemoryLemmas
pub mod WrittenLemmas
pub mod GatheringLemmas
pub mod SavingLemmas
pub mod ShownLemmas
pub mod OutsideFacts
mod Walks
