pub mod SetRanges
pub mod KeysetRanges
pub mod StreamInfos
pub mod Passing
pub mod Rewrapping
pub mod RewrapPromises
pub mod RewrapReads
