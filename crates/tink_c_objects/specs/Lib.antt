pub mod Owned
pub mod Objects
pub mod Writers
pub mod Ranges
pub mod Readers
