pub mod Counted
pub mod Counting
pub mod Resuming
pub mod StandardCounter
