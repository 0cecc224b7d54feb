pub mod Breaking
pub mod Causes
pub mod Fitting
pub mod Performing
pub mod Streams
pub mod Trimming
