pub mod Memory
pub mod MemoryLaws
pub mod States
pub mod Statuses
